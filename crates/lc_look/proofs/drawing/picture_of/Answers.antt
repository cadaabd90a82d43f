use Rattle.std.proofs.Common.{ℕ, List, ◌∙◌, sym, ap, map, length, inl, refl}
use Rattle.std.specs.Prelude.{slice_get}
use Rattle.std.specs.Global.{Vec}
use Rattle.std.proofs.lemmas.Result.{err_from_is_err_and}
use Rattle.lc_record.specs.Lists.{items_of}
use Rattle.lc_record.specs.declared.geometry.Geometry.{Geometry}
use Rattle.lc_recover.specs.Reads.{area_len}
use Rattle.lc_recover.specs.declared.fault.RecoverFault.{RecoverFault}
use Rattle.lc_recover.proofs.AreasRead.{left-both}
use Rattle.lc_look.specs.Dumps.{StopsAt}
use Rattle.lc_look.proofs.PicturesRead.{bytes-have, stops-outward}
use Rattle.lc_look.proofs.drawing.picture_of.Goals as goal

pub returns-in_err-forecast-clause-stops : goal.returns-in_err-forecast-clause-stops
returns-in_err-forecast-clause-stops g c =
    let fault : RecoverFault = c.in_err-forecast.field-0.0 in
    let p = err_from_is_err_and c.from_residual.result c.from_residual.ensures.1 in
    let stops : StopsAt g.D.Area c.args.geometry.now c.args.areas.now fault = record {
      wrong = λ area wrong. (let is = sym c.in_err-forecast.was ∙ c.survey_areas.ensures.wrong area wrong in cc);
      refused = c.in_err-forecast.ensures.refused;
    } in
    rw (p.1, p.2) stops

pub returns-in_err-bytes-clause-left : goal.returns-in_err-bytes-clause-left
returns-in_err-bytes-clause-left g c =
    left-both g.D.Area c.args.geometry.now c.args.areas.now c.survey_areas.new.areas c.read_all.new.areas c.survey_areas.ensures.left c.read_all.ensures.left

pub draw-requires : goal.draw-requires
draw-requires g c area =
    ap (λ (l : List (Vec ℕ)). slice_get (map (λ (bytes : List ℕ). length bytes) (items_of l)) area) c.as_slice.ensures.value
    ∙ bytes-have g.D.Area c.args.geometry.now c.args.areas.now c.survey_areas.new.areas (items_of c.in_ok-bytes.bytes.items) c.in_ok-forecast.ensures.right c.survey_areas.ensures.left c.in_ok-bytes.ensures.lengths area
    ∙ ap (λ (h : Geometry). area_len h area) (sym c.in_ok-forecast.ensures.geometry)

pub returns-in_err-draw-clause-stops : goal.returns-in_err-draw-clause-stops
returns-in_err-draw-clause-stops g c =
    let p = err_from_is_err_and c.from_residual-in_err-draw.result c.from_residual-in_err-draw.ensures.1 in
    rw (p.1, p.2) (stops-outward g.D.Area c.args.geometry.now c.args.areas.now _ c.in_ok-forecast.ensures.right (inl refl))

pub returns-in_err-draw-clause-left : goal.returns-in_err-draw-clause-left
returns-in_err-draw-clause-left g c =
    left-both g.D.Area c.args.geometry.now c.args.areas.now c.survey_areas.new.areas c.read_all.new.areas c.survey_areas.ensures.left c.read_all.ensures.left

pub returns-clause-left : goal.returns-clause-left
returns-clause-left g c =
    left-both g.D.Area c.args.geometry.now c.args.areas.now c.survey_areas.new.areas c.read_all.new.areas c.survey_areas.ensures.left c.read_all.ensures.left

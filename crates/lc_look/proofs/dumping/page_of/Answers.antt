use Rattle.std.proofs.Common.{◌≡◌, ℕ, ◌+◌, ◌-◌, List, [], map, refl, sym, ◌∙◌, ap, subst}
use Rattle.std.specs.Prelude.{slice_index_or}
use Rattle.std.proofs.lemmas.Result.{IfErr-at_err, err_from_is_err_and}
use Rattle.lc_model.specs.Merge.{MergesTo, StoreText}
use Rattle.lc_recover.specs.Fault.{IsRefusal}
use Rattle.lc_recover.specs.Reads.{store_of}
use Rattle.lc_recover.specs.declared.fault.RecoverFault.{RecoverFault}
use Rattle.lc_look.specs.Dumps.{both_slots}
use Rattle.lc_look.proofs.DumpsShown.{left-lengths, left-then, page-room, place-within}
use Rattle.lc_look.proofs.dumping.page_of.Goals as goal

pub returns-in_err-forecast-clause-stops : goal.returns-in_err-forecast-clause-stops
returns-in_err-forecast-clause-stops g c =
    let p = err_from_is_err_and c.from_residual.result c.from_residual.ensures.1 in
    rw p.1 (record {
      wrong = λ area first.
          p.2 ∙ sym (IfErr-at_err (λ (f : RecoverFault). f ≡ c.in_err-forecast.field-0.0) (c.in_err-forecast.ensures.wrong area first) refl);
      refused = λ lengths honest other.
          subst (λ (f : RecoverFault). IsRefusal (store_of c.args.geometry.now (map g.D.Area.now c.args.areas.now)) f) (sym p.2)
          (c.in_err-forecast.ensures.refused lengths honest (λ device. other (p.2 ∙ device)));
    })

pub read_slots-requires-clause-within : goal.read_slots-requires-clause-within
read_slots-requires-clause-within g c =
    place-within g.D.Area c.survey_areas.new.areas c.args.geometry.now
    (left-lengths g.D.Area c.args.areas.now c.args.geometry.now c.survey_areas.new.areas c.survey_areas.ensures.left c.in_ok-forecast.ensures.right) c.args.segment c.args.page c.requires

pub read_slots-requires-clause-room : goal.read_slots-requires-clause-room
read_slots-requires-clause-room g c =
    page-room g.D.Area c.survey_areas.new.areas c.args.geometry.now
    (left-lengths g.D.Area c.args.areas.now c.args.geometry.now c.survey_areas.new.areas c.survey_areas.ensures.left c.in_ok-forecast.ensures.right) c.args.segment c.args.page c.requires

pub returns-in_err-slots-clause-left : goal.returns-in_err-slots-clause-left
returns-in_err-slots-clause-left g c = left-then g.D.Area c.args.areas.now c.survey_areas.new.areas c.read_slots.new.areas c.survey_areas.ensures.left c.read_slots.ensures.left

pub returns-clause-found : goal.returns-clause-found
returns-clause-found g c =
    let its = c.in_ok-forecast.ensures.merged in
    record {
      lengths = c.in_ok-forecast.ensures.right;
      bytes = λ honest. (
        its.content,
        its.numbers,
        subst (λ (s : StoreText). MergesTo s its.content its.numbers) (c.in_ok-forecast.ensures.read honest) its.merges,
        c.page.ensures.bytes its.content its.numbers its.merges,
      );
      slots = λ honest.
          c.in_ok-slots.ensures.slots (c.survey_areas.ensures.honest honest)
          ∙ ap (λ (l : List (List ℕ)). both_slots (slice_index_or l (c.args.geometry.now.nodes + c.args.segment - 1) []) c.args.page) (c.survey_areas.ensures.reads honest);
    }

pub returns-clause-left : goal.returns-clause-left
returns-clause-left g c = left-then g.D.Area c.args.areas.now c.survey_areas.new.areas c.read_slots.new.areas c.survey_areas.ensures.left c.read_slots.ensures.left

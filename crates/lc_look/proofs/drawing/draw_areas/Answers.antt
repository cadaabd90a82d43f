use Rattle.std.proofs.Common.{ℕ, ◌∙◌, ap, sym, subst, refl, inl, inr}
use Rattle.std.specs.Io.KnownBytes.{Appends}
use Rattle.lc_look.specs.Picture.{picture_text}
use Rattle.lc_look.specs.Draws.{DrawsAreas, TellsDraw}
use Rattle.lc_look.specs.Recovers.{stop_status, stop_text}
use Rattle.lc_look.specs.Printed.{Adds}
use Rattle.lc_look.specs.Refused.{RefusesLengths}
use Rattle.lc_look.proofs.AreasRecovered.{ended_with}
use Rattle.lc_look.proofs.PicturesRead.{honest-picture, stopped-draw}
use Rattle.lc_look.proofs.drawing.draw_areas.Goals as goal

pub returns-in-Ok-clause-draws : goal.returns-in-Ok-clause-draws
returns-in-Ok-clause-draws g c =
    let held = g.W.Write.contents c.args.writer.now in
    let holds = g.W.Write.contents c.write_picture.new.writer in
    let picture = c.in-Ok.picture in
    ended_with c.write_picture.result c.ended.result 0 c.ended.ensures (Appends held holds (picture_text picture))
    (λ status. DrawsAreas g.D.Area c.args.geometry.now c.args.areas.now held holds status) c.write_picture.ensures
    (λ shown lengths honest. (picture_text picture, inr (inl (honest-picture g.D.Area c.args.geometry.now c.args.areas.now picture c.in-Ok.ensures.found honest)), shown))

pub returns-in-Ok-clause-tells : goal.returns-in-Ok-clause-tells
returns-in-Ok-clause-tells g c =
    let held = g.W.Write.contents c.args.writer.now in
    let holds = g.W.Write.contents c.write_picture.new.writer in
    let picture = c.in-Ok.picture in
    let found = c.in-Ok.ensures.found in
    ended_with c.write_picture.result c.ended.result 0 c.ended.ensures (Appends held holds (picture_text picture))
    (λ status. Adds (TellsDraw c.args.geometry.now) held holds status) c.write_picture.ensures
    (λ shown. (picture_text picture, inl (found.bytes, found.store, (picture, found.of, refl, refl)), shown))

pub returns-in-Err-clause-draws : goal.returns-in-Err-clause-draws
returns-in-Err-clause-draws g c =
    let held = g.W.Write.contents c.args.writer.now in
    let holds = g.W.Write.contents c.write_stop.new.writer in
    ended_with c.write_stop.result c.ended-in-Err.result c.status_of.result c.ended-in-Err.ensures (Appends held holds (stop_text c.in-Err.fault))
    (λ status. DrawsAreas g.D.Area c.args.geometry.now c.args.areas.now held holds status) c.write_stop.ensures
    (λ shown. subst (λ (status : ℕ). DrawsAreas g.D.Area c.args.geometry.now c.args.areas.now held holds status) (sym c.status_of.ensures)
    (stopped-draw g.D.Area c.args.geometry.now c.args.areas.now held holds c.in-Err.fault c.in-Err.ensures.stops shown))

pub returns-in-Ok-clause-wrong : goal.returns-in-Ok-clause-wrong
returns-in-Ok-clause-wrong g c =
    let held = g.W.Write.contents c.args.writer.now in
    let holds = g.W.Write.contents c.write_picture.new.writer in
    ended_with c.write_picture.result c.ended.result 0 c.ended.ensures (Appends held holds (picture_text c.in-Ok.picture))
    (λ status. RefusesLengths g.D.Area c.args.geometry.now c.args.areas.now held holds status) c.write_picture.ensures
    (λ shown area wrong. absurd (wrong.is (c.in-Ok.ensures.found.lengths area)))

pub returns-in-Err-clause-wrong : goal.returns-in-Err-clause-wrong
returns-in-Err-clause-wrong g c =
    let held = g.W.Write.contents c.args.writer.now in
    let holds = g.W.Write.contents c.write_stop.new.writer in
    ended_with c.write_stop.result c.ended-in-Err.result c.status_of.result c.ended-in-Err.ensures (Appends held holds (stop_text c.in-Err.fault))
    (λ status. RefusesLengths g.D.Area c.args.geometry.now c.args.areas.now held holds status) c.write_stop.ensures
    (λ shown area wrong. let is = c.in-Err.ensures.stops.wrong area wrong in (stop_text c.in-Err.fault, (ap stop_text is, c.status_of.ensures ∙ ap stop_status is), shown))

pub returns-in-Err-clause-tells : goal.returns-in-Err-clause-tells
returns-in-Err-clause-tells g c =
    let held = g.W.Write.contents c.args.writer.now in
    let holds = g.W.Write.contents c.write_stop.new.writer in
    ended_with c.write_stop.result c.ended-in-Err.result c.status_of.result c.ended-in-Err.ensures (Appends held holds (stop_text c.in-Err.fault))
    (λ status. Adds (TellsDraw c.args.geometry.now) held holds status) c.write_stop.ensures
    (λ shown. (stop_text c.in-Err.fault, inr (c.in-Err.fault, refl, c.status_of.ensures), shown))

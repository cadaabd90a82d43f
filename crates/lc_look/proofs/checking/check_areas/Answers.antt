use Rattle.std.proofs.Common.{◌≡◌, [], refl, sym, ◌∙◌, ap, subst, inr}
use Rattle.std.proofs.lemmas.Result.{IfErr-at_err, IfOk-weaker}
use Rattle.std.specs.Io.KnownBytes.{Appends}
use Rattle.lc_model.specs.Merge.{StoreText}
use Rattle.lc_recover.specs.declared.fault.RecoverFault.{RecoverFault}
use Rattle.lc_recover.specs.declared.fault.RecoverFault.TheVariants.{BadGeometry}
use Rattle.lc_look.specs.Checks.{EndsWithRecovery, Shows}
use Rattle.lc_look.specs.Recovers.{stop_status, stop_text}
use Rattle.lc_look.specs.Printed.{Adds}
use Rattle.lc_look.specs.Refused.{RefusesLengths}
use Rattle.lc_look.proofs.AreasRecovered.{ended_with}
use Rattle.lc_look.proofs.ChecksShown.{shows-ends}
use Rattle.lc_look.proofs.checking.check_areas.Goals as goal

pub returns-in-Ok-clause-checks : goal.returns-in-Ok-clause-checks
returns-in-Ok-clause-checks g c =
    IfOk-weaker c.show.result _ _ (λ status told lengths honest.
    (told.0, inr (subst (λ (s : StoreText). Shows c.args.geometry.now s told.0 status) (c.in-Ok.ensures.read honest) told.1), told.2)) c.show.ensures.shows

pub returns-in-Ok-clause-wrong : goal.returns-in-Ok-clause-wrong
returns-in-Ok-clause-wrong g c = IfOk-weaker c.show.result _ _ (λ status told area wrong. absurd (wrong.is (c.in-Ok.ensures.right area))) c.show.ensures.shows

pub returns-in-Ok-clause-tells : goal.returns-in-Ok-clause-tells
returns-in-Ok-clause-tells g c = IfOk-weaker c.show.result _ _ (λ status told. (told.0, shows-ends c.args.geometry.now c.in-Ok.survey.store told.0 status told.1, told.2)) c.show.ensures.shows

pub returns-in-Err-clause-wrong : goal.returns-in-Err-clause-wrong
returns-in-Err-clause-wrong g c =
    let held = g.W.Write.contents c.args.writer.now in
    let holds = g.W.Write.contents c.write_stop.new.writer in
    ended_with c.write_stop.result c.ended.result c.status_of.result c.ended.ensures (Appends held holds (stop_text c.in-Err.fault))
    (λ status. RefusesLengths g.D.Area c.args.geometry.now c.args.areas.now held holds status) c.write_stop.ensures
    (λ shown area wrong.
    let is : BadGeometry area ≡ c.in-Err.fault = IfErr-at_err (λ (f : RecoverFault). f ≡ c.in-Err.fault) (sym c.in-Err.is ∙ c.read.ensures.wrong area wrong) refl in
    (stop_text c.in-Err.fault, (ap stop_text (sym is), c.status_of.ensures ∙ ap stop_status (sym is)), shown))

pub returns-in-Err-clause-tells : goal.returns-in-Err-clause-tells
returns-in-Err-clause-tells g c =
    let held = g.W.Write.contents c.args.writer.now in
    let holds = g.W.Write.contents c.write_stop.new.writer in
    ended_with c.write_stop.result c.ended.result c.status_of.result c.ended.ensures (Appends held holds (stop_text c.in-Err.fault))
    (λ status. Adds (EndsWithRecovery c.args.geometry.now) held holds status) c.write_stop.ensures
    (λ shown. (stop_text c.in-Err.fault, ([], stop_text c.in-Err.fault, refl, inr (c.in-Err.fault, refl, c.status_of.ensures)), shown))

use Rattle.std.proofs.lemmas.Result.{IfOk-weaker}
use Rattle.std.proofs.Common.{List, refl, sym, ap, subst, ◌∙◌}
use Rattle.lc_disk.specs.declared.choice.Choice.{Choice}
use Rattle.lc_model.specs.declared.event.Event.{Event}
use Rattle.lc_model.specs.declared.event.Event.TheVariants.{Stop}
use Rattle.lc_model.specs.declared.refusal.Refusal.TheVariants.{Down as IsDown}
use Rattle.lc_model.specs.declared.reply.Reply.TheVariants.{Refused}
use Rattle.lc_core.specs.Calls.{CallsArea}
use Rattle.lc_core.specs.Lives.{Anyhow}
use Rattle.lc_core.specs.World.{AsksIn, Leads}
use Rattle.lc_core.specs.Faults.{CountsPhase, phase_failures}
use Rattle.lc_core.specs.declared.world_phase.WorldPhase.{WorldPhase}
use Rattle.lc_core.proofs.Asking.{asks_world}
use Rattle.lc_core.proofs.Geometries.{down_outside, recovers_outside, stops_outside, up_geometry, up_outside}
use Rattle.lc_journal.proofs.Logged.{err_then}
use Rattle.lc_core.proofs.OneArea.{calls_none, up_calls, up_keeps}
use Rattle.lc_events.proofs.Recovers.{IfOk-any}
use Rattle.lc_core.proofs.Recovers.{down_refuses, stop_asks, up_asks}
use Rattle.lc_core.specs.declared.world_phase.WorldPhase.TheVariants.{Up}
use Rattle.lc_core.proofs.Recoveries.{else_works, up_follows, up_still}
use Rattle.lc_core.proofs.Layering.{tries_geometry}
use Rattle.lc_core.proofs.Living.{others_told, same_still_lives, up_still_lives, up_told}
use Rattle.lc_core.proofs.CallsTold.{refused_free}
use Rattle.lc_core.proofs.Refusing.{on_err_both}
use Rattle.lc_core.proofs.StaysHonest.{keeps_honest, stays_honest}
use Rattle.lc_core.proofs.Stopped.{same_stop}
use Rattle.lc_core.specs.Stops.{IsLeftBy}
use Rattle.lc_events.proofs.Names.{answers_may, common_may}
use Rattle.lc_core.proofs.Names.{works_acts}
use Rattle.lc_events.specs.MayReply.{may_answer, may_stop}
use Rattle.lc_core.proofs.world.World.step.Goals as goal

pub step-requires : goal.step-requires
step-requires g c = record { up = else_works c.args.event.now c.in_default.not-RecoverStep c.in_default-event.not-Stop }

pub returns-in-Up-clause-follows : goal.returns-in-Up-clause-follows
returns-in-Up-clause-follows g c = IfOk-weaker c.step.result _ _
    (λ reply steps. up_follows g.D.Area c.args.self.now.phase c.in-Up.up c.step.new.self c.args.event.now reply c.in-Up.is steps.follows (stays_honest g.D.Area c.in-Up.up c.step.new.self c.args.event.now reply steps.calls))
    c.step.ensures.steps

pub returns-in-RecoverStep-clause-asks : goal.returns-in-RecoverStep-clause-asks
returns-in-RecoverStep-clause-asks g c = err_then c.recover_step.result c.recover_step.ensures.memory (λ wants.
    asks_world g.D.Area c.args.self.now c.args.event.now (subst (λ (event : Event). AsksIn g.D.Area c.args.self.now.phase event) (sym c.in-RecoverStep.is) wants))

pub returns-in-Up-clause-asks : goal.returns-in-Up-clause-asks
returns-in-Up-clause-asks g c = err_then c.step.result c.step.ensures.memory (λ wants.
    asks_world g.D.Area c.args.self.now c.args.event.now (subst (λ (p : WorldPhase g.row.D.Denot g.D.Area). AsksIn g.D.Area p c.args.event.now) (sym c.in-Up.is) wants))

pub returns-in-Up-clause-err : goal.returns-in-Up-clause-err
returns-in-Up-clause-err g c = err_then c.step.result (on_err_both c.step.result _ _ c.step.ensures.err c.step.ensures.kept)
    (λ both. up_still g.D.Area c.args.self.now.phase c.in-Up.up c.step.new.self c.in-Up.is (keeps_honest g.D.Area c.in-Up.up c.step.new.self both.1) both.0)

pub returns-in-Up-clause-faults : goal.returns-in-Up-clause-faults
returns-in-Up-clause-faults g c = IfOk-weaker c.step.result _ _
    (λ reply steps. subst (λ (p : WorldPhase g.row.D.Denot g.D.Area). CountsPhase g.D.Area p reply (Up c.step.new.self)) (sym c.in-Up.is) steps.faults)
    c.step.ensures.steps

pub returns-in-Up-clause-no_fault : goal.returns-in-Up-clause-no_fault
returns-in-Up-clause-no_fault g c = err_then c.step.result c.step.ensures.no_fault (λ same. same ∙ ap (phase_failures g.D.Area) (sym c.in-Up.is))

pub returns-in-Up-clause-at_once : goal.returns-in-Up-clause-at_once
returns-in-Up-clause-at_once g c = IfOk-any c.step.result
    (λ reply. up_asks g.D.Area c.args.self.now.phase c.in-Up.up c.in-Up.is c.args.event.now c.in_default.not-RecoverStep reply (Up c.step.new.self))

pub returns-in-Up-clause-recovers : goal.returns-in-Up-clause-recovers
returns-in-Up-clause-recovers g c is = absurd (c.in_default.not-RecoverStep is)

pub returns-in_default-phase-clause-at_once : goal.returns-in_default-phase-clause-at_once
returns-in_default-phase-clause-at_once g c = down_refuses g.D.Area c.args.self.now.phase c.args.event.now c.in_default-phase.not-Up (else_works c.args.event.now c.in_default.not-RecoverStep c.in_default-event.not-Stop)

pub returns-in_default-phase-clause-recovers : goal.returns-in_default-phase-clause-recovers
returns-in_default-phase-clause-recovers g c is = absurd (c.in_default.not-RecoverStep is)

pub returns-in-Stop-clause-follows : goal.returns-in-Stop-clause-follows
returns-in-Stop-clause-follows g c = λ m s x h.
    subst (λ (event : Event). Leads g.D.Area m event s x c.stop.result c.stop.new.self.phase) (sym (c.in-Stop.is ∙ sym (ap Stop c.as_slice.ensures))) (c.stop.ensures.follows m s x h)

pub returns-in-Stop-clause-at_once : goal.returns-in-Stop-clause-at_once
returns-in-Stop-clause-at_once g c = stop_asks g.D.Area c.args.self.now.phase c.args.event.now c.in-Stop.choices c.in-Stop.is c.stop.result c.stop.new.self.phase

pub returns-in-Stop-clause-stops : goal.returns-in-Stop-clause-stops
returns-in-Stop-clause-stops g c = λ choices is. (c.stop.ensures.answer, c.stop.ensures.stops)

pub returns-in-Stop-clause-chosen : goal.returns-in-Stop-clause-chosen
returns-in-Stop-clause-chosen g c = λ choices is.
    subst (λ (list : List (List Choice)). IsLeftBy g.D.Area g.D.Stoppable.left list c.args.self.now.phase c.stop.new.self.phase)
    (same_stop _ choices (ap Stop c.as_slice.ensures ∙ sym c.in-Stop.is ∙ is)) c.stop.ensures.chosen

pub returns-in-RecoverStep-clause-unknown : goal.returns-in-RecoverStep-clause-unknown
returns-in-RecoverStep-clause-unknown g c = IfOk-weaker c.recover_step.result _ _
    (λ reply known. recovers_outside g.D.Area c.args.self.now.phase c.args.event.now reply c.in-RecoverStep.is known) c.recover_step.ensures.unknown

pub returns-in-Stop-clause-unknown : goal.returns-in-Stop-clause-unknown
returns-in-Stop-clause-unknown g c = stops_outside g.D.Area c.args.self.now.phase c.args.event.now c.in-Stop.choices c.stop.result c.in-Stop.is c.stop.ensures.answer

pub returns-in-Up-clause-geometry : goal.returns-in-Up-clause-geometry
returns-in-Up-clause-geometry g c = up_geometry g.D.Area c.args.self.now.phase c.in-Up.up c.step.new.self c.in-Up.is (tries_geometry g.D.Area c.in-Up.up c.step.new.self c.args.event.now c.step.result c.step.ensures)

pub returns-in-Up-clause-unknown : goal.returns-in-Up-clause-unknown
returns-in-Up-clause-unknown g c = IfOk-weaker c.step.result _ _
    (λ reply steps. up_outside g.D.Area c.args.self.now.phase c.in-Up.up c.args.event.now reply c.in-Up.is steps.unknown) c.step.ensures.steps

pub returns-in_default-phase-clause-unknown : goal.returns-in_default-phase-clause-unknown
returns-in_default-phase-clause-unknown g c = down_outside g.D.Area c.args.self.now.phase c.args.event.now _ c.in_default-phase.not-Up refl

pub returns-in-RecoverStep-clause-calls : goal.returns-in-RecoverStep-clause-calls
returns-in-RecoverStep-clause-calls g c = IfOk-weaker c.recover_step.result _ _
    (λ reply calls no_stop. subst (λ (event : Event). CallsArea g.D.Area c.args.self.now.phase event reply c.recover_step.new.self.phase) (sym c.in-RecoverStep.is) calls) c.recover_step.ensures.calls

pub returns-in-Stop-clause-calls : goal.returns-in-Stop-clause-calls
returns-in-Stop-clause-calls g c = λ no_stop. absurd (no_stop c.in-Stop.choices c.in-Stop.is)

pub returns-in-Up-clause-calls : goal.returns-in-Up-clause-calls
returns-in-Up-clause-calls g c = IfOk-weaker c.step.result _ _
    (λ reply steps no_stop. up_calls g.D.Area c.args.self.now.phase c.in-Up.up c.step.new.self c.args.event.now reply c.in-Up.is steps.calls) c.step.ensures.steps

pub returns-in_default-phase-clause-calls : goal.returns-in_default-phase-clause-calls
returns-in_default-phase-clause-calls g c = λ no_stop. calls_none g.D.Area c.args.self.now.phase c.args.event.now (Refused IsDown) (λ h. refused_free h c.args.event.now IsDown refl)

pub returns-in-Up-clause-kept : goal.returns-in-Up-clause-kept
returns-in-Up-clause-kept g c = err_then c.step.result c.step.ensures.kept (up_keeps g.D.Area c.args.self.now.phase c.in-Up.up c.step.new.self c.in-Up.is)

pub returns-in-RecoverStep-clause-anyhow : goal.returns-in-RecoverStep-clause-anyhow
returns-in-RecoverStep-clause-anyhow g c = IfOk-weaker c.recover_step.result _ _
    (λ reply told no_stop. subst (λ (event : Event). Anyhow g.D.Area c.args.self.now.phase event reply c.recover_step.new.self.phase) (sym c.in-RecoverStep.is) told)
    c.recover_step.ensures.anyhow

pub returns-in-Stop-clause-anyhow : goal.returns-in-Stop-clause-anyhow
returns-in-Stop-clause-anyhow g c = λ no_stop. absurd (no_stop c.in-Stop.choices c.in-Stop.is)

pub returns-in-Up-clause-anyhow : goal.returns-in-Up-clause-anyhow
returns-in-Up-clause-anyhow g c = IfOk-weaker c.step.result _ _
    (λ reply steps no_stop. up_told g.D.Area c.args.self.now.phase c.in-Up.up c.step.new.self c.args.event.now reply c.in-Up.is c.in_default.not-RecoverStep steps.follows)
    c.step.ensures.steps

pub returns-in_default-phase-clause-anyhow : goal.returns-in_default-phase-clause-anyhow
returns-in_default-phase-clause-anyhow g c = λ no_stop. others_told g.D.Area c.args.self.now.phase c.args.event.now _ _ c.in_default-phase.not-Up c.in_default.not-RecoverStep

pub returns-in-RecoverStep-clause-still : goal.returns-in-RecoverStep-clause-still
returns-in-RecoverStep-clause-still g c = err_then c.recover_step.result c.recover_step.ensures.same (same_still_lives g.D.Area c.args.self.now.phase c.recover_step.new.self.phase)

pub returns-in-Up-clause-still : goal.returns-in-Up-clause-still
returns-in-Up-clause-still g c = err_then c.step.result c.step.ensures.err (up_still_lives g.D.Area c.args.self.now.phase c.in-Up.up c.step.new.self c.in-Up.is)

pub returns-in-RecoverStep-clause-names : goal.returns-in-RecoverStep-clause-names
returns-in-RecoverStep-clause-names g c = IfOk-weaker c.recover_step.result _ _
    (λ reply its. answers_may c.args.event.now reply (ap (λ (e : Event). may_answer e reply) c.in-RecoverStep.is ∙ its)) c.recover_step.ensures.names

pub returns-in-Stop-clause-names : goal.returns-in-Stop-clause-names
returns-in-Stop-clause-names g c = answers_may c.args.event.now c.stop.result (ap (λ (e : Event). may_answer e c.stop.result) c.in-Stop.is ∙ ap may_stop c.stop.ensures.answer)

pub returns-in_default-phase-clause-names : goal.returns-in_default-phase-clause-names
returns-in_default-phase-clause-names g c = common_may c.args.event.now IsDown (works_acts c.args.event.now (else_works c.args.event.now c.in_default.not-RecoverStep c.in_default-event.not-Stop)) refl

pub returns-in-Up-clause-names : goal.returns-in-Up-clause-names
returns-in-Up-clause-names g c = IfOk-weaker c.step.result _ _ (λ reply steps. steps.names) c.step.ensures.steps

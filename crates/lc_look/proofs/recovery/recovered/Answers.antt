use Rattle.std.proofs.Common.{sym, subst}
use Rattle.std.proofs.lemmas.Result.{err_from_is_err_and}
use Rattle.lc_recover.specs.Recovery.{Tells}
use Rattle.lc_recover.specs.declared.fault.RecoverFault.{RecoverFault}
use Rattle.lc_recover.specs.declared.progress.Progress.{Progress}
use Rattle.lc_look.specs.Recovers.{Explains}
use Rattle.lc_look.proofs.AreasRecovered.{done_of, explains_step, first_goes, next_goes, recovers}
use Rattle.lc_look.proofs.recovery.recovered.Goals as goal

pub loop-recovery-init : goal.loop-recovery-init
loop-recovery-init g c = first_goes g.D.Area c.args.geometry c.args.areas.items c.in-Ok.recovery c.in-Ok.ensures.begun

pub returns-in_err-steps-clause-stops : goal.returns-in_err-steps-clause-stops
returns-in_err-steps-clause-stops g c =
    let p = err_from_is_err_and c.from_residual.result c.from_residual.ensures.1 in
    let old = c.loop-recovery.recovery in
    let why = explains_step g.D.Area c.args.geometry c.args.areas.items old c.in_err-steps.field-0.0 c.loop-recovery.invariant c.in-Ok.ensures.right
    c.in_err-steps.ensures.accepted c.in_err-steps.ensures.fault c.in_err-steps.ensures.refused in
    rw p.1 (subst (λ (fault : RecoverFault). Explains g.D.Area c.args.geometry c.args.areas.items fault) (sym p.2) why)

pub loop-recovery-preserved : goal.loop-recovery-preserved
loop-recovery-preserved g c =
    let step = c.in_ok-steps.ensures in
    next_goes g.D.Area c.args.geometry c.args.areas.items c.loop-recovery.recovery c.step.new.self c.loop-recovery.invariant step.geometry step.honest step.merges
    step.steps step.reads step.merged step.no_call (subst (λ (p : Progress). Tells p c.step.new.self) c.in-Stepped.is step.progress).1

pub returns-clause-recovers : goal.returns-clause-recovers
returns-clause-recovers g c =
    let step = c.in_ok-steps.ensures in
    let done = done_of c.in_ok-steps.field-0 c.step.new.self c.in_default.not-Stepped step.progress in
    recovers g.D.Area c.args.geometry c.args.areas.items c.loop-recovery.recovery c.step.new.self c.loop-recovery.invariant step.geometry step.honest step.merges
    step.steps step.reads step.merged step.no_call c.in-Ok.ensures.right step.lengths step.bytes (step.last done) c.finish.result c.finish.ensures.geometry c.finish.ensures.areas c.finish.ensures.made

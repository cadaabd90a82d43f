use Rattle.std.proofs.Common.{refl, sym, subst}
use Rattle.std.proofs.lemmas.Result.{err_from_is_err_and}
use Rattle.lc_recover.specs.Recovery.{Tells}
use Rattle.lc_recover.specs.declared.progress.Progress.{Progress}
use Rattle.lc_look.proofs.AreasRecovered.{done_of, explains_step, first_goes, next_goes, recovers}
use Rattle.lc_store.specs.Opening.{RefusesAreas}
use Rattle.lc_store.specs.declared.store_open_fault.StoreOpenFault.{StoreOpenFault}
use Rattle.lc_store.proofs.recovering.recovered_on.Goals as goal

pub loop-recovery-init : goal.loop-recovery-init
loop-recovery-init g c = first_goes g.D.Area c.args.geometry c.args.areas.items c.in-Ok.recovery c.in-Ok.ensures.begun

pub returns-in_err-step-clause-refuses : goal.returns-in_err-step-clause-refuses
returns-in_err-step-clause-refuses g c =
    let p = err_from_is_err_and c.from_residual.result c.from_residual.ensures.1 in
    let old = c.loop-recovery.recovery in
    let why = explains_step g.D.Area c.args.geometry c.args.areas.items old c.in_err-step.field-0.0 c.loop-recovery.invariant c.in-Ok.ensures.right
    c.in_err-step.ensures.accepted c.in_err-step.ensures.fault c.in_err-step.ensures.refused in
    rw p.1 (subst (λ (fault : StoreOpenFault). RefusesAreas g.D.Area c.args.geometry c.args.areas.items fault) (sym p.2) (c.in_err-step.field-0.0, refl, why))

pub loop-recovery-preserved : goal.loop-recovery-preserved
loop-recovery-preserved g c =
    let step = c.in_ok-step.ensures in
    next_goes g.D.Area c.args.geometry c.args.areas.items c.loop-recovery.recovery c.step.new.self c.loop-recovery.invariant step.geometry step.honest step.merges
    step.steps step.reads step.merged step.no_call (subst (λ (p : Progress). Tells p c.step.new.self) c.in-Stepped.is step.progress).1

pub returns-clause-recovers : goal.returns-clause-recovers
returns-clause-recovers g c =
    let step = c.in_ok-step.ensures in
    let done = done_of c.in_ok-step.field-0 c.step.new.self c.in_default.not-Stepped step.progress in
    recovers g.D.Area c.args.geometry c.args.areas.items c.loop-recovery.recovery c.step.new.self c.loop-recovery.invariant step.geometry step.honest step.merges
    step.steps step.reads step.merged step.no_call c.in-Ok.ensures.right step.lengths step.bytes (step.last done) c.finish.result c.finish.ensures.geometry c.finish.ensures.areas c.finish.ensures.made

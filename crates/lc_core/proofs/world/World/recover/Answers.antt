use Rattle.std.proofs.Common.{◌≡◌, ◌∙◌, Err, sym, ap, subst, arith}
use Rattle.std.proofs.lemmas.Result.{err_from_is_err_and}
use Rattle.lc_record.proofs.ListLemmas.{OnErr_from as on_err}
use Rattle.lc_core.specs.ComingUp.{RecoversTo}
use Rattle.lc_events.specs.declared.call_fault.CallFault.{CallFault}
use Rattle.lc_events.specs.declared.call_fault.CallFault.TheVariants.{NoMemory}
use Rattle.lc_core.proofs.ComingUp.{Came, came_up, less_left, newborn, no_step, one_more, one_step, was_refused, wanted}
use Rattle.lc_core.proofs.world.World.recover.Goals as goal

pub steps-smaller : goal.steps-smaller
steps-smaller g c =
    let less = less_left g.D.Area c.steps.self c.recover_step.new.self c.in-Stepped.field-0 (subst (λ r. RecoversTo g.D.Area c.steps.self r c.recover_step.new.self) c.in-Stepped.is (one_step g.D.Area c.steps.self c.recover_step.new.self c.in_ok-recover_step.field-0 c.in_ok-recover_step.ensures.follows c.in_ok-recover_step.ensures.at_once
    c.in_ok-recover_step.ensures.faults c.recover_step.ensures.geometry c.in_ok-recover_step.ensures.unknown c.in_ok-recover_step.ensures.calls c.in_ok-recover_step.ensures.recovers c.in_ok-recover_step.ensures.anyhow c.in_ok-recover_step.ensures.names)) in
    omega (arith, less)

pub steps-preserved : goal.steps-preserved
steps-preserved g c =
    one_more g.D.Area c.args.self.now c.steps.self c.recover_step.new.self c.in-Stepped.field-0 c.steps.invariant
    (subst (λ r. RecoversTo g.D.Area c.steps.self r c.recover_step.new.self) c.in-Stepped.is (one_step g.D.Area c.steps.self c.recover_step.new.self c.in_ok-recover_step.field-0 c.in_ok-recover_step.ensures.follows c.in_ok-recover_step.ensures.at_once
    c.in_ok-recover_step.ensures.faults c.recover_step.ensures.geometry c.in_ok-recover_step.ensures.unknown c.in_ok-recover_step.ensures.calls c.in_ok-recover_step.ensures.recovers c.in_ok-recover_step.ensures.anyhow c.in_ok-recover_step.ensures.names))

pub returns-in-Recovered-clause-steps : goal.returns-in-Recovered-clause-steps
returns-in-Recovered-clause-steps g c =
    (came_up g.D.Area c.args.self.now c.steps.self c.recover_step.new.self c.steps.invariant
    (subst (λ r. RecoversTo g.D.Area c.steps.self r c.recover_step.new.self) c.in-Recovered.is (one_step g.D.Area c.steps.self c.recover_step.new.self c.in_ok-recover_step.field-0 c.in_ok-recover_step.ensures.follows c.in_ok-recover_step.ensures.at_once
    c.in_ok-recover_step.ensures.faults c.recover_step.ensures.geometry c.in_ok-recover_step.ensures.unknown c.in_ok-recover_step.ensures.calls c.in_ok-recover_step.ensures.recovers c.in_ok-recover_step.ensures.anyhow c.in_ok-recover_step.ensures.names))).0.steps

pub returns-in-Recovered-clause-up : goal.returns-in-Recovered-clause-up
returns-in-Recovered-clause-up g c =
    (came_up g.D.Area c.args.self.now c.steps.self c.recover_step.new.self c.steps.invariant
    (subst (λ r. RecoversTo g.D.Area c.steps.self r c.recover_step.new.self) c.in-Recovered.is (one_step g.D.Area c.steps.self c.recover_step.new.self c.in_ok-recover_step.field-0 c.in_ok-recover_step.ensures.follows c.in_ok-recover_step.ensures.at_once
    c.in_ok-recover_step.ensures.faults c.recover_step.ensures.geometry c.in_ok-recover_step.ensures.unknown c.in_ok-recover_step.ensures.calls c.in_ok-recover_step.ensures.recovers c.in_ok-recover_step.ensures.anyhow c.in_ok-recover_step.ensures.names))).1

pub returns-in-Recovered-clause-born : goal.returns-in-Recovered-clause-born
returns-in-Recovered-clause-born g c =
    newborn g.D.Area c.steps.self c.recover_step.new.self
    (subst (λ r. RecoversTo g.D.Area c.steps.self r c.recover_step.new.self) c.in-Recovered.is (one_step g.D.Area c.steps.self c.recover_step.new.self c.in_ok-recover_step.field-0 c.in_ok-recover_step.ensures.follows c.in_ok-recover_step.ensures.at_once
    c.in_ok-recover_step.ensures.faults c.recover_step.ensures.geometry c.in_ok-recover_step.ensures.unknown c.in_ok-recover_step.ensures.calls c.in_ok-recover_step.ensures.recovers c.in_ok-recover_step.ensures.anyhow c.in_ok-recover_step.ensures.names))

pub returns-in-Recovered-clause-at_once : goal.returns-in-Recovered-clause-at_once
returns-in-Recovered-clause-at_once g c =
    (came_up g.D.Area c.args.self.now c.steps.self c.recover_step.new.self c.steps.invariant
    (subst (λ r. RecoversTo g.D.Area c.steps.self r c.recover_step.new.self) c.in-Recovered.is (one_step g.D.Area c.steps.self c.recover_step.new.self c.in_ok-recover_step.field-0 c.in_ok-recover_step.ensures.follows c.in_ok-recover_step.ensures.at_once
    c.in_ok-recover_step.ensures.faults c.recover_step.ensures.geometry c.in_ok-recover_step.ensures.unknown c.in_ok-recover_step.ensures.calls c.in_ok-recover_step.ensures.recovers c.in_ok-recover_step.ensures.anyhow c.in_ok-recover_step.ensures.names))).0.at_once

pub returns-in-Recovered-clause-geometry : goal.returns-in-Recovered-clause-geometry
returns-in-Recovered-clause-geometry g c =
    (came_up g.D.Area c.args.self.now c.steps.self c.recover_step.new.self c.steps.invariant
    (subst (λ r. RecoversTo g.D.Area c.steps.self r c.recover_step.new.self) c.in-Recovered.is (one_step g.D.Area c.steps.self c.recover_step.new.self c.in_ok-recover_step.field-0 c.in_ok-recover_step.ensures.follows c.in_ok-recover_step.ensures.at_once
    c.in_ok-recover_step.ensures.faults c.recover_step.ensures.geometry c.in_ok-recover_step.ensures.unknown c.in_ok-recover_step.ensures.calls c.in_ok-recover_step.ensures.recovers c.in_ok-recover_step.ensures.anyhow c.in_ok-recover_step.ensures.names))).0.geometry

pub returns-in-Refused-clause-steps : goal.returns-in-Refused-clause-steps
returns-in-Refused-clause-steps g c =
    (was_refused g.D.Area c.args.self.now c.steps.self c.recover_step.new.self c.steps.invariant c.in-Refused.refusal
    (subst (λ r. RecoversTo g.D.Area c.steps.self r c.recover_step.new.self) c.in-Refused.is (one_step g.D.Area c.steps.self c.recover_step.new.self c.in_ok-recover_step.field-0 c.in_ok-recover_step.ensures.follows c.in_ok-recover_step.ensures.at_once
    c.in_ok-recover_step.ensures.faults c.recover_step.ensures.geometry c.in_ok-recover_step.ensures.unknown c.in_ok-recover_step.ensures.calls c.in_ok-recover_step.ensures.recovers c.in_ok-recover_step.ensures.anyhow c.in_ok-recover_step.ensures.names))).0.steps

pub returns-in-Refused-clause-kept : goal.returns-in-Refused-clause-kept
returns-in-Refused-clause-kept g c =
    (was_refused g.D.Area c.args.self.now c.steps.self c.recover_step.new.self c.steps.invariant c.in-Refused.refusal
    (subst (λ r. RecoversTo g.D.Area c.steps.self r c.recover_step.new.self) c.in-Refused.is (one_step g.D.Area c.steps.self c.recover_step.new.self c.in_ok-recover_step.field-0 c.in_ok-recover_step.ensures.follows c.in_ok-recover_step.ensures.at_once
    c.in_ok-recover_step.ensures.faults c.recover_step.ensures.geometry c.in_ok-recover_step.ensures.unknown c.in_ok-recover_step.ensures.calls c.in_ok-recover_step.ensures.recovers c.in_ok-recover_step.ensures.anyhow c.in_ok-recover_step.ensures.names))).1

pub returns-in-Refused-clause-at_once : goal.returns-in-Refused-clause-at_once
returns-in-Refused-clause-at_once g c =
    (was_refused g.D.Area c.args.self.now c.steps.self c.recover_step.new.self c.steps.invariant c.in-Refused.refusal
    (subst (λ r. RecoversTo g.D.Area c.steps.self r c.recover_step.new.self) c.in-Refused.is (one_step g.D.Area c.steps.self c.recover_step.new.self c.in_ok-recover_step.field-0 c.in_ok-recover_step.ensures.follows c.in_ok-recover_step.ensures.at_once
    c.in_ok-recover_step.ensures.faults c.recover_step.ensures.geometry c.in_ok-recover_step.ensures.unknown c.in_ok-recover_step.ensures.calls c.in_ok-recover_step.ensures.recovers c.in_ok-recover_step.ensures.anyhow c.in_ok-recover_step.ensures.names))).0.at_once

pub returns-in-Refused-clause-geometry : goal.returns-in-Refused-clause-geometry
returns-in-Refused-clause-geometry g c =
    (was_refused g.D.Area c.args.self.now c.steps.self c.recover_step.new.self c.steps.invariant c.in-Refused.refusal
    (subst (λ r. RecoversTo g.D.Area c.steps.self r c.recover_step.new.self) c.in-Refused.is (one_step g.D.Area c.steps.self c.recover_step.new.self c.in_ok-recover_step.field-0 c.in_ok-recover_step.ensures.follows c.in_ok-recover_step.ensures.at_once
    c.in_ok-recover_step.ensures.faults c.recover_step.ensures.geometry c.in_ok-recover_step.ensures.unknown c.in_ok-recover_step.ensures.calls c.in_ok-recover_step.ensures.recovers c.in_ok-recover_step.ensures.anyhow c.in_ok-recover_step.ensures.names))).0.geometry

pub returns-in_err-recover_step-clause-steps : goal.returns-in_err-recover_step-clause-steps
returns-in_err-recover_step-clause-steps g c =
    let p = err_from_is_err_and c.from_residual.result c.from_residual.ensures.1 in
    let is : c.from_residual.result ≡ Err NoMemory = p.1 ∙ ap (λ (f : CallFault). Err f) p.2 in
    let made = wanted g.D.Area c.args.self.now c.steps.self c.recover_step.new.self c.steps.invariant
    (no_step g.D.Area c.steps.self c.recover_step.new.self c.in_err-recover_step.ensures.memory c.in_err-recover_step.ensures.err c.in_err-recover_step.ensures.no_fault
    c.recover_step.ensures.geometry c.in_err-recover_step.ensures.kept c.in_err-recover_step.ensures.same) in
    (subst (λ r. Came g.D.Area c.args.self.now r c.recover_step.new.self) (sym is) made.0).steps

pub returns-in_err-recover_step-clause-kept : goal.returns-in_err-recover_step-clause-kept
returns-in_err-recover_step-clause-kept g c =
    on_err c.from_residual.result _
    (wanted g.D.Area c.args.self.now c.steps.self c.recover_step.new.self c.steps.invariant
    (no_step g.D.Area c.steps.self c.recover_step.new.self c.in_err-recover_step.ensures.memory c.in_err-recover_step.ensures.err c.in_err-recover_step.ensures.no_fault
    c.recover_step.ensures.geometry c.in_err-recover_step.ensures.kept c.in_err-recover_step.ensures.same)).1

pub returns-in_err-recover_step-clause-at_once : goal.returns-in_err-recover_step-clause-at_once
returns-in_err-recover_step-clause-at_once g c =
    let p = err_from_is_err_and c.from_residual.result c.from_residual.ensures.1 in
    let is : c.from_residual.result ≡ Err NoMemory = p.1 ∙ ap (λ (f : CallFault). Err f) p.2 in
    let made = wanted g.D.Area c.args.self.now c.steps.self c.recover_step.new.self c.steps.invariant
    (no_step g.D.Area c.steps.self c.recover_step.new.self c.in_err-recover_step.ensures.memory c.in_err-recover_step.ensures.err c.in_err-recover_step.ensures.no_fault
    c.recover_step.ensures.geometry c.in_err-recover_step.ensures.kept c.in_err-recover_step.ensures.same) in
    (subst (λ r. Came g.D.Area c.args.self.now r c.recover_step.new.self) (sym is) made.0).at_once

pub returns-in_err-recover_step-clause-geometry : goal.returns-in_err-recover_step-clause-geometry
returns-in_err-recover_step-clause-geometry g c =
    (wanted g.D.Area c.args.self.now c.steps.self c.recover_step.new.self c.steps.invariant
    (no_step g.D.Area c.steps.self c.recover_step.new.self c.in_err-recover_step.ensures.memory c.in_err-recover_step.ensures.err c.in_err-recover_step.ensures.no_fault
    c.recover_step.ensures.geometry c.in_err-recover_step.ensures.kept c.in_err-recover_step.ensures.same)).0.geometry

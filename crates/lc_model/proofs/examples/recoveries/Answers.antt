use Rattle.std.proofs.Common.{◌≡◌, refl, ap, inl, inr, arith}
use Rattle.lc_model.specs.State.{State}
use Rattle.lc_model.specs.declared.reply.Reply.TheVariants.{Stepped, Recovered, Refused}
use Rattle.lc_model.specs.declared.refusal.Refusal.TheVariants.{OutOfTurn, DeviceFault}
use Rattle.lc_model.proofs.examples.recoveries.Goals as goal
use Rattle.std.proofs.Common.{length}

pub returns-clause-down : goal.returns-clause-down
returns-clause-down c = λ node thread segments reading. (refl, refl)

pub returns-clause-recovered : goal.returns-clause-recovered
returns-clause-recovered c = inr (inr (refl, refl))

pub returns-clause-keeps_no_more : goal.returns-clause-keeps_no_more
returns-clause-keeps_no_more c = λ step. elim step [ inl one ↦ absurd (let e : Recovered ≡ Stepped one.0 = one.1 in cc) | inr two ↦ elim two [ inl one ↦ absurd (let e : Recovered ≡ Refused DeviceFault = one.0 in cc) | inr one ↦ absurd (let e : 3 ≡ 2 = ap (λ (s : State). length s.earlier) one.1 in omega (arith, e)) ] ]

pub returns-clause-again : goal.returns-clause-again
returns-clause-again c = inr (inr (refl, refl))

pub returns-clause-loses_none : goal.returns-clause-loses_none
returns-clause-loses_none c = λ step. elim step [ inl one ↦ absurd (let e : Recovered ≡ Stepped one.0 = one.1 in cc) | inr two ↦ elim two [ inl one ↦ absurd (let e : Recovered ≡ Refused DeviceFault = one.0 in cc) | inr one ↦ absurd (let e : 1 ≡ 3 = ap (λ (s : State). length s.earlier) one.1 in omega (arith, e)) ] ]

pub returns-clause-step_changes_nothing : goal.returns-clause-step_changes_nothing
returns-clause-step_changes_nothing c = λ steps. inl (steps, refl, refl)

pub returns-clause-up : goal.returns-clause-up
returns-clause-up c = (refl, refl)

pub returns-clause-not_while_up : goal.returns-clause-not_while_up
returns-clause-not_while_up c = λ new step. absurd (let e : Recovered ≡ Refused OutOfTurn = step.0 in cc)

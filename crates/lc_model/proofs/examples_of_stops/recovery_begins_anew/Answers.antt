use Rattle.std.proofs.Common.{◌≡◌, refl, inl, inr, ap, true≢false}
use Rattle.lc_model.specs.declared.reply.Reply.TheVariants.{Stepped, Nothing, Recovered, Refused}
use Rattle.lc_model.specs.declared.refusal.Refusal.TheVariants.{Halted, DeviceFault}
use Rattle.lc_model.specs.State.{State, At}
use Rattle.lc_model.proofs.examples_of_stops.recovery_begins_anew.Goals as goal

pub returns-clause-again : goal.returns-clause-again
returns-clause-again c = inr (inr (refl, refl))

pub returns-clause-no_other : goal.returns-clause-no_other
returns-clause-no_other c = λ new step. elim step [ inl one ↦ absurd (let e : Recovered ≡ Stepped one.0 = one.1 in cc) | inr two ↦ elim two [ inl one ↦ absurd (let e : Recovered ≡ Refused DeviceFault = one.0 in cc) | inr one ↦ one.1 ] ]

pub returns-clause-none_halted : goal.returns-clause-none_halted
returns-clause-none_halted c = λ node. refl

pub returns-clause-not_halted : goal.returns-clause-not_halted
returns-clause-not_halted c = λ step. elim step [ inl one ↦ absurd (let e : Recovered ≡ Stepped one.0 = one.1 in cc) | inr two ↦ elim two [ inl one ↦ absurd (let e : Recovered ≡ Refused DeviceFault = one.0 in cc) | inr one ↦ true≢false (ap (λ (s : State). s.halted 1) one.1) ] ]

pub returns-clause-places : goal.returns-clause-places
returns-clause-places c = λ segment. refl

pub returns-clause-not_moved : goal.returns-clause-not_moved
returns-clause-not_moved c = λ step. elim step [ inl one ↦ absurd (let e : Recovered ≡ Stepped one.0 = one.1 in cc) | inr two ↦ elim two [ inl one ↦ absurd (let e : Recovered ≡ Refused DeviceFault = one.0 in cc) | inr one ↦ absurd (let e : At 0 ≡ At 1 = ap (λ (s : State). s.place 1) one.1 in cc) ] ]

pub returns-clause-works_again : goal.returns-clause-works_again
returns-clause-works_again c = (refl, refl)

pub returns-clause-not_refused : goal.returns-clause-not_refused
returns-clause-not_refused c = λ new step. absurd (let e : Refused Halted ≡ Nothing = step.0 in cc)

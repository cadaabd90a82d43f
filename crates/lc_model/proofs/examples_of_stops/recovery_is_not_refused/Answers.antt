use Rattle.std.proofs.Common.{◌≡◌, refl, inl, inr, ap, true≢false}
use Rattle.lc_model.specs.declared.reply.Reply.TheVariants.{Ok as Accepted, Stepped, Nothing, Recovered, Refused}
use Rattle.lc_model.specs.declared.refusal.Refusal.TheVariants.{DeviceFault}
use Rattle.lc_model.specs.State.{State}
use Rattle.lc_model.proofs.examples_of_stops.recovery_is_not_refused.Goals as goal

pub returns-clause-no_refusal : goal.returns-clause-no_refusal
returns-clause-no_refusal c = λ refusal differs new step. elim step [ inl one ↦ absurd (let e : Refused refusal ≡ Stepped one.0 = one.1 in cc) | inr two ↦ elim two [ inl one ↦ absurd (differs (let e : Refused refusal ≡ Refused DeviceFault = one.0 in cc)) | inr one ↦ absurd (let e : Refused refusal ≡ Recovered = one.0 in cc) ] ]

pub returns-clause-halted_or_not : goal.returns-clause-halted_or_not
returns-clause-halted_or_not c = λ refusal differs new step. elim step [ inl one ↦ absurd (let e : Refused refusal ≡ Stepped one.0 = one.1 in cc) | inr two ↦ elim two [ inl one ↦ absurd (differs (let e : Refused refusal ≡ Refused DeviceFault = one.0 in cc)) | inr one ↦ absurd (let e : Refused refusal ≡ Recovered = one.0 in cc) ] ]

pub returns-clause-fault : goal.returns-clause-fault
returns-clause-fault c = inr (inl (refl, refl))

pub returns-clause-fault_halts_none : goal.returns-clause-fault_halts_none
returns-clause-fault_halts_none c = λ step. elim step [ inl one ↦ absurd (let e : Refused DeviceFault ≡ Stepped one.0 = one.1 in cc) | inr two ↦ elim two [ inl one ↦ true≢false (ap (λ (s : State). s.halted 0) one.1) | inr one ↦ absurd (let e : Refused DeviceFault ≡ Recovered = one.0 in cc) ] ]

pub returns-clause-not_ok : goal.returns-clause-not_ok
returns-clause-not_ok c = λ new step. elim step [ inl one ↦ absurd (let e : Accepted ≡ Stepped one.0 = one.1 in cc) | inr two ↦ elim two [ inl one ↦ absurd (let e : Accepted ≡ Refused DeviceFault = one.0 in cc) | inr one ↦ absurd (let e : Accepted ≡ Recovered = one.0 in cc) ] ]

pub returns-clause-not_nothing : goal.returns-clause-not_nothing
returns-clause-not_nothing c = λ new step. elim step [ inl one ↦ absurd (let e : Nothing ≡ Stepped one.0 = one.1 in cc) | inr two ↦ elim two [ inl one ↦ absurd (let e : Nothing ≡ Refused DeviceFault = one.0 in cc) | inr one ↦ absurd (let e : Nothing ≡ Recovered = one.0 in cc) ] ]

use Rattle.std.proofs.Common.{◌≡◌, refl, inl, inr}
use Rattle.lc_model.specs.declared.reply.Reply.TheVariants.{Stepped, Acked, Nothing, Refused}
use Rattle.lc_model.specs.declared.refusal.Refusal.TheVariants.{DeviceFault}
use Rattle.lc_model.proofs.examples.flush_begins.Goals as goal

pub returns-clause-first_step : goal.returns-clause-first_step
returns-clause-first_step c = inl (refl, refl)

pub returns-clause-some_to_do : goal.returns-clause-some_to_do
returns-clause-some_to_do c = λ new step. elim step [ inl one ↦ absurd (let e : Nothing ≡ Stepped 1 = one.0 in cc) | inr two ↦ absurd (let e : Nothing ≡ Refused DeviceFault = two.0 in cc) ]

pub returns-clause-second_step : goal.returns-clause-second_step
returns-clause-second_step c = inl (refl, refl)

pub returns-clause-not_first : goal.returns-clause-not_first
returns-clause-not_first c = λ new step. elim step [ inl one ↦ absurd (let e : Stepped 1 ≡ Stepped 2 = one.0 in cc) | inr two ↦ absurd (let e : Stepped 1 ≡ Refused DeviceFault = two.0 in cc) ]

pub returns-clause-not_acked : goal.returns-clause-not_acked
returns-clause-not_acked c = λ new step. elim step [ inl one ↦ absurd (let e : Acked 2 ≡ Stepped 2 = one.0 in cc) | inr two ↦ absurd (let e : Acked 2 ≡ Refused DeviceFault = two.0 in cc) ]

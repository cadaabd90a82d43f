use Rattle.std.proofs.Common.{◌≡◌, refl, inl, inr, ap, arith}
use Rattle.lc_model.specs.declared.reply.Reply.TheVariants.{Stepped, Acked, Nothing, Refused}
use Rattle.lc_model.specs.declared.refusal.Refusal.TheVariants.{DeviceFault}
use Rattle.lc_model.specs.State.{State}
use Rattle.lc_model.proofs.examples_of_stops.flush_takes_once.Goals as goal

pub returns-clause-acked : goal.returns-clause-acked
returns-clause-acked c = inl (refl, refl)

pub returns-clause-not_closed : goal.returns-clause-not_closed
returns-clause-not_closed c = λ new step. elim step [ inl one ↦ absurd (let e : Acked 3 ≡ Acked 2 = one.0 in cc) | inr two ↦ absurd (let e : Acked 3 ≡ Refused DeviceFault = two.0 in cc) ]

pub returns-clause-still_two : goal.returns-clause-still_two
returns-clause-still_two c = inl (refl, refl)

pub returns-clause-not_three : goal.returns-clause-not_three
returns-clause-not_three c = λ step. elim step [ inl one ↦ (let e : 3 ≡ 2 = ap (λ (s : State). (s.flush 0).taken) one.1 in absurd (omega (arith, e))) | inr two ↦ absurd (let e : Stepped 2 ≡ Refused DeviceFault = two.0 in cc) ]

pub returns-clause-then_the_next : goal.returns-clause-then_the_next
returns-clause-then_the_next c = inl (refl, refl)

pub returns-clause-not_nothing : goal.returns-clause-not_nothing
returns-clause-not_nothing c = λ new step. elim step [ inl one ↦ absurd (let e : Nothing ≡ Stepped 1 = one.0 in cc) | inr two ↦ absurd (let e : Nothing ≡ Refused DeviceFault = two.0 in cc) ]

use Rattle.std.proofs.Common.{◌≡◌, refl, inl, inr}
use Rattle.lc_model.specs.declared.reply.Reply.TheVariants.{Stepped, Nothing, Refused}
use Rattle.lc_model.specs.declared.refusal.Refusal.TheVariants.{DeviceFault}
use Rattle.lc_model.proofs.examples_of_nothing.flush_of_nothing_closed.Goals as goal

pub returns-clause-one_more_reserved : goal.returns-clause-one_more_reserved
returns-clause-one_more_reserved c = refl

pub returns-clause-not_closed : goal.returns-clause-not_closed
returns-clause-not_closed c = refl

pub returns-clause-nothing : goal.returns-clause-nothing
returns-clause-nothing c = (refl, refl)

pub returns-clause-no_step : goal.returns-clause-no_step
returns-clause-no_step c = λ steps new step. absurd (let e : Stepped steps ≡ Nothing = step.0 in cc)

pub returns-clause-no_fault : goal.returns-clause-no_fault
returns-clause-no_fault c = λ new step. absurd (let e : Refused DeviceFault ≡ Nothing = step.0 in cc)

pub returns-clause-another_has_some : goal.returns-clause-another_has_some
returns-clause-another_has_some c = λ new step. elim step [ inl one ↦ absurd (let e : Nothing ≡ Stepped 1 = one.0 in cc) | inr two ↦ absurd (let e : Nothing ≡ Refused DeviceFault = two.0 in cc) ]

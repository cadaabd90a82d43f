use Rattle.std.proofs.Common.{◌≡◌, refl, inl, inr}
use Rattle.lc_model.specs.declared.reply.Reply.TheVariants.{Stepped, Acked, Nothing, Refused}
use Rattle.lc_model.specs.declared.refusal.Refusal.TheVariants.{DeviceFault}
use Rattle.lc_model.proofs.examples.flush_ends.Goals as goal

pub returns-clause-last_step : goal.returns-clause-last_step
returns-clause-last_step c = inl (refl, refl)

pub returns-clause-no_fewer : goal.returns-clause-no_fewer
returns-clause-no_fewer c = λ new step. elim step [ inl one ↦ absurd (let e : Acked 1 ≡ Acked 2 = one.0 in cc) | inr two ↦ absurd (let e : Acked 1 ≡ Refused DeviceFault = two.0 in cc) ]

pub returns-clause-no_more_steps : goal.returns-clause-no_more_steps
returns-clause-no_more_steps c = λ new step. elim step [ inl one ↦ absurd (let e : Stepped 4 ≡ Acked 2 = one.0 in cc) | inr two ↦ absurd (let e : Stepped 4 ≡ Refused DeviceFault = two.0 in cc) ]

pub returns-clause-then_nothing : goal.returns-clause-then_nothing
returns-clause-then_nothing c = (refl, refl)

pub returns-clause-not_again : goal.returns-clause-not_again
returns-clause-not_again c = λ new step. absurd (let e : Stepped 1 ≡ Nothing = step.0 in cc)

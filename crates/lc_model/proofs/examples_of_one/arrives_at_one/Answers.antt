use Rattle.std.proofs.Common.{◌≡◌, refl, ap, inl, inr}
use Rattle.lc_model.specs.State.{State}
use Rattle.lc_model.specs.declared.reply.Reply.TheVariants.{Ok as Accepted, Nothing, Refused}
use Rattle.lc_model.specs.declared.refusal.Refusal.TheVariants.{Behind}
use Rattle.lc_model.proofs.examples_of_one.arrives_at_one.Goals as goal

pub returns-clause-at_the_second : goal.returns-clause-at_the_second
returns-clause-at_the_second c = inl (refl, refl)

pub returns-clause-nowhere_else : goal.returns-clause-nowhere_else
returns-clause-nowhere_else c = λ new step. elim step [
  | inl one ↦ one.1
  | inr two ↦ absurd (let e : Accepted ≡ Refused (Behind two.0 two.1) = two.2 in cc)
]

pub returns-clause-stands_there : goal.returns-clause-stands_there
returns-clause-stands_there c = λ new step. elim step [
  | inl one ↦ ap (λ (s : State). s.place 1) one.1
  | inr two ↦ absurd (let e : Accepted ≡ Refused (Behind two.0 two.1) = two.2 in cc)
]

pub returns-clause-at_the_first : goal.returns-clause-at_the_first
returns-clause-at_the_first c = λ new step. elim step [
  | inl one ↦ ap (λ (s : State). s.place 1) one.1
  | inr two ↦ absurd (let e : Accepted ≡ Refused (Behind two.0 two.1) = two.2 in cc)
]

pub returns-clause-other_stays : goal.returns-clause-other_stays
returns-clause-other_stays c = λ new step. elim step [
  | inl one ↦ ap (λ (s : State). s.place 2) one.1
  | inr two ↦ absurd (let e : Accepted ≡ Refused (Behind two.0 two.1) = two.2 in cc)
]

pub returns-clause-not_on_its_way : goal.returns-clause-not_on_its_way
returns-clause-not_on_its_way c = ((refl, refl), λ reply new step. step)

pub returns-clause-not_stepped : goal.returns-clause-not_stepped
returns-clause-not_stepped c = λ new step. elim step [
  | inl one ↦ absurd (let e : Nothing ≡ Accepted = one.0 in cc)
  | inr two ↦ absurd (let e : Nothing ≡ Refused (Behind two.0 two.1) = two.2 in cc)
]

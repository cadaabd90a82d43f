use Rattle.std.proofs.Common.{◌≡◌, refl, inl, inr}
use Rattle.lc_model.specs.declared.reply.Reply.TheVariants.{Reserved, Ended, Refused}
use Rattle.lc_model.proofs.examples.reserving.Goals as goal

pub returns-clause-ended : goal.returns-clause-ended
returns-clause-ended c = (refl, refl)

pub returns-clause-not_reserved : goal.returns-clause-not_reserved
returns-clause-not_reserved c = λ place words new step. absurd (let e : Reserved place words ≡ Ended = step.0 in cc)

pub returns-clause-reserved : goal.returns-clause-reserved
returns-clause-reserved c = λ place words. inl (place, words, refl, refl)

pub returns-clause-not_ended : goal.returns-clause-not_ended
returns-clause-not_ended c = λ new step. elim step [ inl one ↦ absurd (let e : Ended ≡ Reserved one.0 one.1 = one.2 in cc) | inr one ↦ absurd (let e : Ended ≡ Refused one.0 = one.2 in cc) ]

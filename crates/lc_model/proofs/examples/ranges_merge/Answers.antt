use Rattle.std.proofs.Common.{◌≡◌, refl}
use Rattle.lc_model.specs.declared.reply.Reply.TheVariants.{Ok as Accepted, Refused}
use Rattle.lc_model.specs.declared.refusal.Refusal.TheVariants.{TooManyRanges}
use Rattle.lc_model.proofs.examples.ranges_merge.Goals as goal

pub returns-clause-three_ranges : goal.returns-clause-three_ranges
returns-clause-three_ranges c = refl

pub returns-clause-too_many : goal.returns-clause-too_many
returns-clause-too_many c = (refl, refl)

pub returns-clause-not_ok : goal.returns-clause-not_ok
returns-clause-not_ok c = λ new step. absurd (let e : Accepted ≡ Refused TooManyRanges = step.0 in cc)

pub returns-clause-touching : goal.returns-clause-touching
returns-clause-touching c = (refl, refl)

pub returns-clause-not_too_many : goal.returns-clause-not_too_many
returns-clause-not_too_many c = λ new step. absurd (let e : Refused TooManyRanges ≡ Accepted = step.0 in cc)

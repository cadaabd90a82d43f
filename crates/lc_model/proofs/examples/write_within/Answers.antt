use Rattle.std.proofs.Common.{◌≡◌, refl}
use Rattle.lc_model.specs.declared.reply.Reply.TheVariants.{Ok as Accepted, Refused}
use Rattle.lc_model.specs.declared.refusal.Refusal.TheVariants.{NoRange}
use Rattle.lc_model.proofs.examples.write_within.Goals as goal

pub returns-clause-no_range : goal.returns-clause-no_range
returns-clause-no_range c = (refl, refl)

pub returns-clause-not_ok : goal.returns-clause-not_ok
returns-clause-not_ok c = λ new step. absurd (let e : Accepted ≡ Refused NoRange = step.0 in cc)

pub returns-clause-outside : goal.returns-clause-outside
returns-clause-outside c = (refl, refl)

pub returns-clause-no_bytes : goal.returns-clause-no_bytes
returns-clause-no_bytes c = (refl, refl)

pub returns-clause-no_turn : goal.returns-clause-no_turn
returns-clause-no_turn c = (refl, refl)

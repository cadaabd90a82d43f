use Rattle.std.proofs.Common.{◌≡◌, refl, inl, inr}
use Rattle.lc_model.specs.declared.reply.Reply.TheVariants.{Ok as Accepted, Refused}
use Rattle.lc_model.specs.declared.refusal.Refusal.TheVariants.{NotHere, OutOfTurn}
use Rattle.lc_model.proofs.examples.arriving.Goals as goal

pub returns-clause-arrives : goal.returns-clause-arrives
returns-clause-arrives c = inl (refl, refl)

pub returns-clause-behind : goal.returns-clause-behind
returns-clause-behind c = inr (2, 3, refl, refl)

pub returns-clause-no_turn : goal.returns-clause-no_turn
returns-clause-no_turn c = (refl, refl)

pub returns-clause-not_taken : goal.returns-clause-not_taken
returns-clause-not_taken c = λ new step. absurd (let e : Accepted ≡ Refused OutOfTurn = step.0 in cc)

pub returns-clause-not_left : goal.returns-clause-not_left
returns-clause-not_left c = λ new step. absurd (let e : Accepted ≡ Refused (NotHere 1) = step.0 in cc)

use Rattle.std.proofs.Common.{◌≡◌, refl}
use Rattle.lc_model.specs.declared.reply.Reply.TheVariants.{Ok as Accepted, Ended, Refused}
use Rattle.lc_model.specs.declared.refusal.Refusal.TheVariants.{OutOfTurn}
use Rattle.lc_model.proofs.examples.closing.Goals as goal

pub returns-clause-closes : goal.returns-clause-closes
returns-clause-closes c = (refl, refl)

pub returns-clause-not_abort : goal.returns-clause-not_abort
returns-clause-not_abort c = λ new step. absurd (let e : Accepted ≡ Refused OutOfTurn = step.0 in cc)

pub returns-clause-of_another : goal.returns-clause-of_another
returns-clause-of_another c = (refl, refl)

pub returns-clause-not_again : goal.returns-clause-not_again
returns-clause-not_again c = λ new step. absurd (let e : Accepted ≡ Refused OutOfTurn = step.0 in cc)

pub returns-clause-aborts : goal.returns-clause-aborts
returns-clause-aborts c = (refl, refl)

pub returns-clause-not_ended : goal.returns-clause-not_ended
returns-clause-not_ended c = λ new step. absurd (let e : Ended ≡ Accepted = step.0 in cc)

use Rattle.std.proofs.Common.{◌≡◌, refl}
use Rattle.lc_model.specs.declared.reply.Reply.TheVariants.{Ok as Accepted, Refused}
use Rattle.lc_model.specs.declared.refusal.Refusal.TheVariants.{NotHere, Busy}
use Rattle.lc_model.proofs.examples.begin_refused.Goals as goal

pub returns-clause-not_here : goal.returns-clause-not_here
returns-clause-not_here c = (refl, refl)

pub returns-clause-not_busy : goal.returns-clause-not_busy
returns-clause-not_busy c = λ new step. absurd (let e : Refused (Busy 2) ≡ Refused (NotHere 1) = step.0 in cc)

pub returns-clause-not_ok : goal.returns-clause-not_ok
returns-clause-not_ok c = λ new step. absurd (let e : Accepted ≡ Refused (NotHere 1) = step.0 in cc)

pub returns-clause-busy : goal.returns-clause-busy
returns-clause-busy c = (refl, refl)

pub returns-clause-out_of_turn : goal.returns-clause-out_of_turn
returns-clause-out_of_turn c = (refl, refl)

pub returns-clause-free : goal.returns-clause-free
returns-clause-free c = (refl, refl)

pub returns-clause-not_busy_there : goal.returns-clause-not_busy_there
returns-clause-not_busy_there c = λ new step. absurd (let e : Refused (Busy 2) ≡ Accepted = step.0 in cc)

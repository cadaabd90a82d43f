use Rattle.std.proofs.Common.{◌≡◌, refl}
use Rattle.lc_model.specs.declared.reply.Reply.TheVariants.{Ok as Accepted, Refused}
use Rattle.lc_model.specs.declared.refusal.Refusal.TheVariants.{Unknown}
use Rattle.lc_model.proofs.examples_of_refusals.unknown_threads.Goals as goal

pub returns-clause-begin : goal.returns-clause-begin
returns-clause-begin c = ((refl, refl), λ reply new step. step)

pub returns-clause-set_range : goal.returns-clause-set_range
returns-clause-set_range c = ((refl, refl), λ reply new step. step)

pub returns-clause-write : goal.returns-clause-write
returns-clause-write c = ((refl, refl), λ reply new step. step)

pub returns-clause-read : goal.returns-clause-read
returns-clause-read c = ((refl, refl), λ reply new step. step)

pub returns-clause-abort : goal.returns-clause-abort
returns-clause-abort c = ((refl, refl), λ reply new step. step)

pub returns-clause-reserve : goal.returns-clause-reserve
returns-clause-reserve c = ((refl, refl), λ reply new step. step)

pub returns-clause-close : goal.returns-clause-close
returns-clause-close c = ((refl, refl), λ reply new step. step)

pub returns-clause-last_thread : goal.returns-clause-last_thread
returns-clause-last_thread c = λ new step. absurd (let e : Refused Unknown ≡ Accepted = step.0 in cc)

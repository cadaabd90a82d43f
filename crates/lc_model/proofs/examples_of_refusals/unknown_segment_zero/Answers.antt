use Rattle.std.proofs.Common.{◌≡◌, refl}
use Rattle.lc_model.specs.declared.reply.Reply.TheVariants.{Ok as Accepted, Refused}
use Rattle.lc_model.specs.declared.refusal.Refusal.TheVariants.{Unknown}
use Rattle.lc_model.proofs.examples_of_refusals.unknown_segment_zero.Goals as goal

pub returns-clause-begin : goal.returns-clause-begin
returns-clause-begin c = ((refl, refl), λ reply new step. step)

pub returns-clause-begin_reading : goal.returns-clause-begin_reading
returns-clause-begin_reading c = ((refl, refl), λ reply new step. step)

pub returns-clause-set_range : goal.returns-clause-set_range
returns-clause-set_range c = ((refl, refl), λ reply new step. step)

pub returns-clause-write : goal.returns-clause-write
returns-clause-write c = ((refl, refl), λ reply new step. step)

pub returns-clause-read : goal.returns-clause-read
returns-clause-read c = ((refl, refl), λ reply new step. step)

pub returns-clause-leave : goal.returns-clause-leave
returns-clause-leave c = ((refl, refl), λ reply new step. step)

pub returns-clause-arrive : goal.returns-clause-arrive
returns-clause-arrive c = ((refl, refl), λ reply new step. step)

pub returns-clause-deliver : goal.returns-clause-deliver
returns-clause-deliver c = ((refl, refl), λ reply new step. step)

pub returns-clause-page_step : goal.returns-clause-page_step
returns-clause-page_step c = ((refl, refl), λ reply new step. step)

pub returns-clause-first_segment : goal.returns-clause-first_segment
returns-clause-first_segment c = λ new step. absurd (let e : Refused Unknown ≡ Accepted = step.0 in cc)

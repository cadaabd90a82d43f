use Rattle.std.proofs.Common.{◌≡◌, refl, inl, inr}
use Rattle.lc_model.specs.declared.reply.Reply.TheVariants.{Stepped, Refused}
use Rattle.lc_model.specs.declared.refusal.Refusal.TheVariants.{Unknown, DeviceFault}
use Rattle.lc_model.proofs.examples_of_refusals.unknown_nodes.Goals as goal

pub returns-clause-begin : goal.returns-clause-begin
returns-clause-begin c = ((refl, refl), λ reply new step. step)

pub returns-clause-set_range : goal.returns-clause-set_range
returns-clause-set_range c = ((refl, refl), λ reply new step. step)

pub returns-clause-write : goal.returns-clause-write
returns-clause-write c = ((refl, refl), λ reply new step. step)

pub returns-clause-read : goal.returns-clause-read
returns-clause-read c = ((refl, refl), λ reply new step. step)

pub returns-clause-abort : goal.returns-clause-abort
returns-clause-abort c = ((refl, refl), λ reply new step. step)

pub returns-clause-reserve : goal.returns-clause-reserve
returns-clause-reserve c = ((refl, refl), λ reply new step. step)

pub returns-clause-close : goal.returns-clause-close
returns-clause-close c = ((refl, refl), λ reply new step. step)

pub returns-clause-flush_step : goal.returns-clause-flush_step
returns-clause-flush_step c = ((refl, refl), λ reply new step. step)

pub returns-clause-leave : goal.returns-clause-leave
returns-clause-leave c = ((refl, refl), λ reply new step. step)

pub returns-clause-arrive : goal.returns-clause-arrive
returns-clause-arrive c = ((refl, refl), λ reply new step. step)

pub returns-clause-deliver : goal.returns-clause-deliver
returns-clause-deliver c = ((refl, refl), λ reply new step. step)

pub returns-clause-trim : goal.returns-clause-trim
returns-clause-trim c = ((refl, refl), λ reply new step. step)

pub returns-clause-page_step : goal.returns-clause-page_step
returns-clause-page_step c = ((refl, refl), λ reply new step. step)

pub returns-clause-reset_step : goal.returns-clause-reset_step
returns-clause-reset_step c = ((refl, refl), λ reply new step. step)

pub returns-clause-sender : goal.returns-clause-sender
returns-clause-sender c = ((refl, refl), λ reply new step. step)

pub returns-clause-last_node : goal.returns-clause-last_node
returns-clause-last_node c = λ new step. elim step [ inl one ↦ absurd (let e : Refused Unknown ≡ Stepped 1 = one.0 in cc) | inr two ↦ absurd (let e : Refused Unknown ≡ Refused DeviceFault = two.0 in cc) ]

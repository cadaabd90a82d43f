use Rattle.std.proofs.Common.{◌≡◌, ◌∷◌, [], refl}
use Rattle.lc_model.specs.declared.reply.Reply.TheVariants.{Ok as Accepted, Bytes, Refused}
use Rattle.lc_model.specs.declared.refusal.Refusal.TheVariants.{NoRange}
use Rattle.lc_model.proofs.examples_of_nothing.write_of_no_bytes.Goals as goal

pub returns-clause-in_a_range : goal.returns-clause-in_a_range
returns-clause-in_a_range c = (refl, refl)

pub returns-clause-under_no_range : goal.returns-clause-under_no_range
returns-clause-under_no_range c = (refl, refl)

pub returns-clause-not_no_range : goal.returns-clause-not_no_range
returns-clause-not_no_range c = λ new step. absurd (let e : Refused NoRange ≡ Accepted = step.0 in cc)

pub returns-clause-at_the_end : goal.returns-clause-at_the_end
returns-clause-at_the_end c = (refl, refl)

pub returns-clause-past_the_end : goal.returns-clause-past_the_end
returns-clause-past_the_end c = ((refl, refl), λ reply new step. step)

pub returns-clause-not_locked : goal.returns-clause-not_locked
returns-clause-not_locked c = ((refl, refl), λ reply new step. step)

pub returns-clause-read_only : goal.returns-clause-read_only
returns-clause-read_only c = ((refl, refl), λ reply new step. step)

pub returns-clause-one_byte : goal.returns-clause-one_byte
returns-clause-one_byte c = ((refl, refl), λ reply new step. step)

pub returns-clause-reads_the_same : goal.returns-clause-reads_the_same
returns-clause-reads_the_same c = (refl, refl)

pub returns-clause-no_other_bytes : goal.returns-clause-no_other_bytes
returns-clause-no_other_bytes c = λ new step. absurd (let e : Bytes (21 ∷ 0 ∷ 0 ∷ []) ≡ Bytes (21 ∷ 99 ∷ 0 ∷ []) = step.0 in cc)

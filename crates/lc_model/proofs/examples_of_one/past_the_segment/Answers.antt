use Rattle.std.proofs.Common.{refl}
use Rattle.lc_model.proofs.examples_of_one.past_the_segment.Goals as goal

pub returns-clause-reads_the_last : goal.returns-clause-reads_the_last
returns-clause-reads_the_last c = ((refl, refl), λ reply new step. step)

pub returns-clause-read_past : goal.returns-clause-read_past
returns-clause-read_past c = ((refl, refl), λ reply new step. step)

pub returns-clause-read_behind : goal.returns-clause-read_behind
returns-clause-read_behind c = ((refl, refl), λ reply new step. step)

pub returns-clause-write_of_no_range : goal.returns-clause-write_of_no_range
returns-clause-write_of_no_range c = ((refl, refl), λ reply new step. step)

pub returns-clause-write_past : goal.returns-clause-write_past
returns-clause-write_past c = ((refl, refl), λ reply new step. step)

pub returns-clause-range_past : goal.returns-clause-range_past
returns-clause-range_past c = ((refl, refl), λ reply new step. step)

pub returns-clause-range_of_nothing : goal.returns-clause-range_of_nothing
returns-clause-range_of_nothing c = ((refl, refl), λ reply new step. step)

use Rattle.std.proofs.Common.{refl}
use Rattle.lc_model.proofs.examples_of_one.aborts_one.Goals as goal

pub returns-clause-second_thread : goal.returns-clause-second_thread
returns-clause-second_thread c = ((refl, refl), λ reply new step. step)

pub returns-clause-first_thread : goal.returns-clause-first_thread
returns-clause-first_thread c = ((refl, refl), λ reply new step. step)

pub returns-clause-other_node : goal.returns-clause-other_node
returns-clause-other_node c = ((refl, refl), λ reply new step. step)

pub returns-clause-none_of_its : goal.returns-clause-none_of_its
returns-clause-none_of_its c = ((refl, refl), λ reply new step. step)

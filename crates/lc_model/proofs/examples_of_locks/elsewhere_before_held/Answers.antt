use Rattle.std.proofs.Common.{refl}
use Rattle.lc_model.proofs.examples_of_locks.elsewhere_before_held.Goals as goal

pub returns-clause-begin : goal.returns-clause-begin
returns-clause-begin c = ((refl, refl), λ reply new step. step)

pub returns-clause-begin_reading : goal.returns-clause-begin_reading
returns-clause-begin_reading c = ((refl, refl), λ reply new step. step)

pub returns-clause-busy_where_it_is : goal.returns-clause-busy_where_it_is
returns-clause-busy_where_it_is c = ((refl, refl), λ reply new step. step)

pub returns-clause-turn_first : goal.returns-clause-turn_first
returns-clause-turn_first c = ((refl, refl), λ reply new step. step)

pub returns-clause-not_here_in_turn : goal.returns-clause-not_here_in_turn
returns-clause-not_here_in_turn c = ((refl, refl), λ reply new step. step)

pub returns-clause-leave : goal.returns-clause-leave
returns-clause-leave c = ((refl, refl), λ reply new step. step)

pub returns-clause-leave_where_it_is : goal.returns-clause-leave_where_it_is
returns-clause-leave_where_it_is c = ((refl, refl), λ reply new step. step)

pub returns-clause-leave_on_its_way : goal.returns-clause-leave_on_its_way
returns-clause-leave_on_its_way c = ((refl, refl), λ reply new step. step)

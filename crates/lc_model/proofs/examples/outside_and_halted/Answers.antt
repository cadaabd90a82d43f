use Rattle.std.proofs.Common.{refl, inl}
use Rattle.lc_model.proofs.examples.outside_and_halted.Goals as goal

pub returns-clause-no_node : goal.returns-clause-no_node
returns-clause-no_node c = (refl, refl)

pub returns-clause-no_thread : goal.returns-clause-no_thread
returns-clause-no_thread c = (refl, refl)

pub returns-clause-no_segment : goal.returns-clause-no_segment
returns-clause-no_segment c = (refl, refl)

pub returns-clause-no_segment_zero : goal.returns-clause-no_segment_zero
returns-clause-no_segment_zero c = (refl, refl)

pub returns-clause-no_trim : goal.returns-clause-no_trim
returns-clause-no_trim c = (refl, refl)

pub returns-clause-down_first : goal.returns-clause-down_first
returns-clause-down_first c = (refl, refl)

pub returns-clause-unknown_first : goal.returns-clause-unknown_first
returns-clause-unknown_first c = (refl, refl)

pub returns-clause-to_halted : goal.returns-clause-to_halted
returns-clause-to_halted c = (refl, refl)

pub returns-clause-from_halted : goal.returns-clause-from_halted
returns-clause-from_halted c = (refl, refl)

pub returns-clause-others_go_on : goal.returns-clause-others_go_on
returns-clause-others_go_on c = inl (refl, refl)

use Rattle.lc_stage.proofs.Flushed.{taken_group}
use Rattle.lc_stage.proofs.laws.taken_is_a_group.Goals as goal

pub returns : goal.returns
returns c = taken_group

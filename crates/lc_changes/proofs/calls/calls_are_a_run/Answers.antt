use Rattle.lc_changes.proofs.Blocks.{all-in-blocks, in-blocks}
use Rattle.lc_changes.proofs.calls.calls_are_a_run.Goals as goal

pub returns-clause-blocks : goal.returns-clause-blocks
returns-clause-blocks c = in-blocks

pub returns-clause-opened : goal.returns-clause-opened
returns-clause-opened c = all-in-blocks

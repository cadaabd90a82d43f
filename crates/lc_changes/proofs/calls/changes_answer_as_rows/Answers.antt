use Rattle.lc_changes.proofs.Answering.{empty-range, many-ranges, outside-range, outside-write, sets-range, unset-write}
use Rattle.lc_changes.proofs.calls.changes_answer_as_rows.Goals as goal

pub returns-clause-empty : goal.returns-clause-empty
returns-clause-empty c = empty-range

pub returns-clause-outside : goal.returns-clause-outside
returns-clause-outside c = outside-range

pub returns-clause-too_many : goal.returns-clause-too_many
returns-clause-too_many c = many-ranges

pub returns-clause-sets : goal.returns-clause-sets
returns-clause-sets c = sets-range

pub returns-clause-write_outside : goal.returns-clause-write_outside
returns-clause-write_outside c = outside-write

pub returns-clause-no_range : goal.returns-clause-no_range
returns-clause-no_range c = unset-write

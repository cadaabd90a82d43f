use Rattle.lc_model.proofs.Outcome.{one-fault, fault-apart, one-value}
use Rattle.lc_model.proofs.merge.one_outcome.Goals as goal

pub returns-clause-fault : goal.returns-clause-fault
returns-clause-fault c = one-fault

pub returns-clause-apart : goal.returns-clause-apart
returns-clause-apart c = fault-apart

pub returns-clause-result : goal.returns-clause-result
returns-clause-result c = one-value

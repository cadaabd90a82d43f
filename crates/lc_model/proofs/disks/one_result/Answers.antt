use Rattle.lc_model.proofs.Result.{merged}
use Rattle.lc_model.proofs.One.{one-result}
use Rattle.lc_model.proofs.disks.one_result.Goals as goal

pub returns-clause-merged : goal.returns-clause-merged
returns-clause-merged c = merged

pub returns-clause-one : goal.returns-clause-one
returns-clause-one c = one-result

use Rattle.lc_model.proofs.Zeros.{zeros-readable, zeros-merged}
use Rattle.lc_model.proofs.disks.zeros.Goals as goal

pub returns-clause-readable : goal.returns-clause-readable
returns-clause-readable c = zeros-readable

pub returns-clause-merged : goal.returns-clause-merged
returns-clause-merged c = zeros-merged

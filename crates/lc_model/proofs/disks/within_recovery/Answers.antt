use Rattle.lc_model.proofs.Within.{renewed-merged, still-renewed, reset-merged}
use Rattle.lc_model.proofs.disks.within_recovery.Goals as goal

pub returns-clause-pages : goal.returns-clause-pages
returns-clause-pages c = renewed-merged

pub returns-clause-logs : goal.returns-clause-logs
returns-clause-logs c = reset-merged

pub returns-clause-still : goal.returns-clause-still
returns-clause-still c = still-renewed

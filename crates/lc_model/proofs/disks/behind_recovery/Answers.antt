use Rattle.lc_model.proofs.Recovered.{recovered, renewed-fits, image-readable, first-recovered}
use Rattle.lc_model.proofs.disks.behind_recovery.Goals as goal

pub returns-clause-next : goal.returns-clause-next
returns-clause-next c = recovered

pub returns-clause-first : goal.returns-clause-first
returns-clause-first c = first-recovered

pub returns-clause-any : goal.returns-clause-any
returns-clause-any c = renewed-fits

pub returns-clause-readable : goal.returns-clause-readable
returns-clause-readable c = image-readable

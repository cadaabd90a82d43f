use Rattle.lc_model.proofs.Downs.{stop-some, stop-at}
use Rattle.lc_model.proofs.runs.stop_possible.Goals as goal

pub returns-clause-some : goal.returns-clause-some
returns-clause-some c = stop-some

pub returns-clause-at_each : goal.returns-clause-at_each
returns-clause-at_each c = stop-at

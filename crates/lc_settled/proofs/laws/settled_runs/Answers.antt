use Rattle.lc_settled.proofs.OneMore.{run_of}
use Rattle.lc_settled.proofs.laws.settled_runs.Goals as goal

pub returns : goal.returns
returns c = run_of

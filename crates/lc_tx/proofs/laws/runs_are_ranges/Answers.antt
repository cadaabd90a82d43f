use Rattle.lc_tx.proofs.StandsLemmas.{more_runs}
use Rattle.lc_tx.proofs.laws.runs_are_ranges.Goals as goal

pub returns : goal.returns
returns g c = more_runs g.I.Images

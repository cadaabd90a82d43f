use Rattle.lc_tx.proofs.StandsLemmas.{range_stands}
use Rattle.lc_tx.proofs.laws.range_set.Goals as goal

pub returns : goal.returns
returns g c = range_stands g.I.Images

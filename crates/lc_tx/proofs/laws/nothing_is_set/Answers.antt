use Rattle.lc_tx.proofs.StandsLemmas.{empty_set}
use Rattle.lc_tx.proofs.laws.nothing_is_set.Goals as goal

pub returns : goal.returns
returns g c = empty_set g.I.Images

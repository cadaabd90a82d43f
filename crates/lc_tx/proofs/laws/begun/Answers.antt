use Rattle.lc_tx.proofs.StandsLemmas.{begun_stands}
use Rattle.lc_tx.proofs.laws.begun.Goals as goal

pub returns : goal.returns
returns g c = begun_stands g.I.Images

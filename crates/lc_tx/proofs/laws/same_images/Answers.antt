use Rattle.lc_tx.proofs.StandsLemmas.{same_stands}
use Rattle.lc_tx.proofs.laws.same_images.Goals as goal

pub returns : goal.returns
returns g c = same_stands g.I.Images

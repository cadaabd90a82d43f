use Rattle.lc_tx.proofs.StandsLemmas.{content_back}
use Rattle.lc_tx.proofs.laws.content_is_back.Goals as goal

pub returns : goal.returns
returns g c = content_back g.I.Images

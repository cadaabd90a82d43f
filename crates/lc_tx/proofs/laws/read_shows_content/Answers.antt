use Rattle.lc_tx.proofs.StandsLemmas.{read_shown}
use Rattle.lc_tx.proofs.laws.read_shows_content.Goals as goal

pub returns : goal.returns
returns g c = read_shown g.I.Images

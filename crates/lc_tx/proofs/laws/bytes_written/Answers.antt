use Rattle.lc_tx.proofs.StandsLemmas.{write_stands}
use Rattle.lc_tx.proofs.laws.bytes_written.Goals as goal

pub returns : goal.returns
returns g c = write_stands g.I.Images

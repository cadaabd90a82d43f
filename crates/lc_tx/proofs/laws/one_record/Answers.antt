use Rattle.lc_tx.proofs.StandsLemmas.{record_stands}
use Rattle.lc_tx.proofs.laws.one_record.Goals as goal

pub returns : goal.returns
returns g c = record_stands g.I.Images

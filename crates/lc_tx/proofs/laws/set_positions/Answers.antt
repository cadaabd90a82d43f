use Rattle.lc_tx.proofs.StandsLemmas.{positions_set}
use Rattle.lc_tx.proofs.laws.set_positions.Goals as goal

pub returns : goal.returns
returns g c = λ images tx segment offset len content t is. positions_set g.I.Images images tx content t segment offset len is

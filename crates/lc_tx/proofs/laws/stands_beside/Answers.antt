use Rattle.lc_tx.proofs.BesideLemmas.{stands_beside}
use Rattle.lc_tx.proofs.laws.stands_beside.Goals as goal

pub returns : goal.returns
returns g c = λ old new tx content other t is on keeps shape same. stands_beside g.I.Images old new tx on keeps content other t is shape same

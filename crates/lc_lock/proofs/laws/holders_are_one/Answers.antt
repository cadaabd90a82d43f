use Rattle.lc_lock.proofs.Keeps.{one_holder}
use Rattle.lc_lock.proofs.laws.holders_are_one.Goals as goal

pub returns : goal.returns
returns g c = λ key s i j m n v w. one_holder g.T.Keyed.fits key s i j m n v w

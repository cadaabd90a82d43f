use Rattle.lc_lock.proofs.Keeps.{held_is_out}
use Rattle.lc_lock.proofs.laws.held_value_is_out.Goals as goal

pub returns : goal.returns
returns g c = λ key s i n v. held_is_out g.T.Keyed.fits key s i n v

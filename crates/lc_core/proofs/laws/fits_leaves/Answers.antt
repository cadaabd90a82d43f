use Rattle.lc_core.proofs.HeadlineHolds.{areas_there, fits_leaves}
use Rattle.lc_core.proofs.laws.fits_leaves.Goals as goal

pub returns-clause-some : goal.returns-clause-some
returns-clause-some g c = λ m s x w. areas_there g.D.Area w.phase m s x

pub returns-clause-leaves : goal.returns-clause-leaves
returns-clause-leaves g c = λ m s x w. fits_leaves g.D.Area m s x w.phase

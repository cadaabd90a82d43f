use Rattle.lc_recover.proofs.Blank.{zeros_all_merge}
use Rattle.lc_recover.proofs.zeros.zeros_merge.Goals as goal

pub returns : goal.returns
returns g c = zeros_all_merge g.D.Area

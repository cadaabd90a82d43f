use Rattle.lc_segments.proofs.WorkSteps.{works_then}
use Rattle.lc_segments.proofs.laws.works_then.Goals as goal

pub returns : goal.returns
returns g c = works_then g.I.Images g.met.I.Images.beside_chained

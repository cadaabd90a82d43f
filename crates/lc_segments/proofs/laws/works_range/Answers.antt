use Rattle.lc_segments.proofs.WorkSteps.{works_range}
use Rattle.lc_segments.proofs.laws.works_range.Goals as goal

pub returns : goal.returns
returns g c = works_range g.I.Images

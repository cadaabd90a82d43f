use Rattle.lc_segments.proofs.WorkSteps.{works_write}
use Rattle.lc_segments.proofs.laws.works_write.Goals as goal

pub returns : goal.returns
returns g c = works_write g.I.Images

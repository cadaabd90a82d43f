use Rattle.lc_segments.proofs.WorkSteps.{works_nothing}
use Rattle.lc_segments.proofs.laws.works_nothing.Goals as goal

pub returns : goal.returns
returns g c = works_nothing g.I.Images

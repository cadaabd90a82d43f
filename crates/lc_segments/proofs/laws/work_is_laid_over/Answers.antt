use Rattle.lc_segments.proofs.Applied.{laid_is_left}
use Rattle.lc_segments.proofs.laws.work_is_laid_over.Goals as goal

pub returns : goal.returns
returns c = laid_is_left

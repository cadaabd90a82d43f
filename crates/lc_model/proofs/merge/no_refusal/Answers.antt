use Rattle.lc_model.proofs.Unrefused.{image-merges}
use Rattle.lc_model.proofs.merge.no_refusal.Goals as goal

pub returns : goal.returns
returns c = image-merges

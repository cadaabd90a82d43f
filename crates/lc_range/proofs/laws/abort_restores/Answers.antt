use Rattle.lc_range.proofs.StepLemmas.{abort_restores}
use Rattle.lc_range.proofs.laws.abort_restores.Goals as goal

pub returns : goal.returns
returns c = abort_restores

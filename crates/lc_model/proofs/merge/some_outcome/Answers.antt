use Rattle.lc_model.proofs.SomeOutcome.{some-outcome}
use Rattle.lc_model.proofs.merge.some_outcome.Goals as goal

pub returns : goal.returns
returns c = record { outcome = some-outcome }

use Rattle.lc_model.proofs.Downs.{recovered}
use Rattle.lc_model.proofs.runs.kept_cut.Goals as goal

pub returns : goal.returns
returns c = record { kept_cut = recovered }

use Rattle.lc_tx.proofs.KeptLemmas.{kept_has}
use Rattle.lc_tx.proofs.laws.kept_is_set.Goals as goal

pub returns : goal.returns
returns g c = λ images tx segment k on. (kept_has tx.undo tx.set on.set_alone segment k, on.set_kept segment k)

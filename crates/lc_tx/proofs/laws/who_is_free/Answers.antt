use Rattle.lc_tx.proofs.HolderLemmas.{who_is_free}
use Rattle.lc_tx.proofs.laws.who_is_free.Goals as goal

pub returns : goal.returns
returns c = who_is_free

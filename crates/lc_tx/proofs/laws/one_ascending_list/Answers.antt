use Rattle.lc_tx.proofs.AscendLemmas.{set_is_ascending}
use Rattle.lc_tx.proofs.laws.one_ascending_list.Goals as goal

pub returns : goal.returns
returns c = set_is_ascending

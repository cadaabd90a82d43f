use Rattle.lc_page.proofs.SlotLemmas.{all_kept}
use Rattle.lc_page.proofs.laws.sync_keeps.Goals as goal

pub returns : goal.returns
returns c = all_kept

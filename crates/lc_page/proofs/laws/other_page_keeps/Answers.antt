use Rattle.lc_page.proofs.SlotLemmas.{apart_kept}
use Rattle.lc_page.proofs.laws.other_page_keeps.Goals as goal

pub returns : goal.returns
returns c = apart_kept

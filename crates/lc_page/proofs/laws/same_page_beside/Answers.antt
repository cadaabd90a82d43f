use Rattle.lc_page.proofs.StateLemmas.{kept_page}
use Rattle.lc_page.proofs.laws.same_page_beside.Goals as goal

pub returns : goal.returns
returns c = kept_page

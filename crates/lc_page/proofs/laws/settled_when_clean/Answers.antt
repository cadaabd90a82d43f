use Rattle.lc_page.proofs.StateLemmas.{clean_settled}
use Rattle.lc_page.proofs.laws.settled_when_clean.Goals as goal

pub returns : goal.returns
returns c = clean_settled

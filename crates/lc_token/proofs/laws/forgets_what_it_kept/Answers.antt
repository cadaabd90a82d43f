use Rattle.lc_token.proofs.BacklogLemmas.{keeping_forgotten}
use Rattle.lc_token.proofs.laws.forgets_what_it_kept.Goals as goal

pub returns : goal.returns
returns c = keeping_forgotten

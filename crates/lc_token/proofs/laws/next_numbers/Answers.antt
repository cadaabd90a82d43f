use Rattle.lc_token.proofs.BacklogLemmas.{are_due}
use Rattle.lc_token.proofs.laws.next_numbers.Goals as goal

pub returns : goal.returns
returns c = are_due

use Rattle.lc_token.proofs.ResetLemmas.{numbers_known}
use Rattle.lc_token.proofs.laws.known_numbers.Goals as goal

pub returns : goal.returns
returns c = λ words known_of none. numbers_known known_of words none

use Rattle.lc_token.proofs.KnownLemmas.{known-within}
use Rattle.lc_token.proofs.laws.known_is_clean.Goals as goal

pub returns : goal.returns
returns c = known-within

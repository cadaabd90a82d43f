use Rattle.lc_token.proofs.CallLemmas.{same_end}
use Rattle.lc_token.proofs.laws.same_records.Goals as goal

pub returns : goal.returns
returns c = same_end

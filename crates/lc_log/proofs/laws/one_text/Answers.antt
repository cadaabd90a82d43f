use Rattle.lc_log.proofs.LogLemmas.{one_text-by}
use Rattle.lc_log.proofs.laws.one_text.Goals as goal

pub returns : goal.returns
returns c = one_text-by

use Rattle.lc_log.proofs.LogLemmas.{text_at_rest}
use Rattle.lc_log.proofs.laws.begins_at_rest.Goals as goal

pub returns : goal.returns
returns c = text_at_rest

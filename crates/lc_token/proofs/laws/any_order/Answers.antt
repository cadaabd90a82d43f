use Rattle.lc_token.proofs.CallLemmas.{all_applied, all_due}
use Rattle.lc_token.proofs.laws.any_order.Goals as goal

pub returns : goal.returns
returns c = record { due = all_due; applied = all_applied }

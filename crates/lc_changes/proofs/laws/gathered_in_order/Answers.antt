use Rattle.lc_changes.proofs.InOrder.{in_order}
use Rattle.lc_changes.proofs.laws.gathered_in_order.Goals as goal

pub returns : goal.returns
returns c = in_order

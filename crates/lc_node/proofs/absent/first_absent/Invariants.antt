use Rattle.lc_node.proofs.FirstGone.{IsLooking}
use Rattle.lc_node.proofs.absent.first_absent.Given as goal

abbrev pub invariant-loop-held : goal.invariant-loop-held
invariant-loop-held g l = IsLooking l.sides l.held-index

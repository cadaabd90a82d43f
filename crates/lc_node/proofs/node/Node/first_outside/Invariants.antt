use Rattle.lc_node.proofs.Outside.{IsLooking}
use Rattle.lc_node.proofs.node.Node.first_outside.Given as goal

abbrev pub invariant-loop-segment : goal.invariant-loop-segment
invariant-loop-segment g l = IsLooking l.self l.segments l.segment-index

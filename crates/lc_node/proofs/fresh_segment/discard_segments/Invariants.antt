use Rattle.std.proofs.Common.{length}
use Rattle.lc_node.proofs.fresh_segment.discard_segments.Given as goal

abbrev pub invariant-loop-segment : goal.invariant-loop-segment
invariant-loop-segment g l = Unit {0}

abbrev pub decreases-loop-segment : goal.decreases-loop-segment
decreases-loop-segment g l = length l.segments.items

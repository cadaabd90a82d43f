use Rattle.std.proofs.Common.{◌≡◌, map, take}
use Rattle.lc_node.proofs.pumping.segments_locked.Given as goal

abbrev pub invariant-loop-index : goal.invariant-loop-index
invariant-loop-index l = l.segments.items ≡ map (λ lock. lock.segment) (take l.index l.record.locks)

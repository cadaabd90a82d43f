use Rattle.std.proofs.Common.{◌≡◌, ◌≤◌, ◌++◌, length, take, vec_capacity}
use Rattle.lc_log_side.proofs.flushing.keep.Given as goal

abbrev pub invariant-loop-index : goal.invariant-loop-index
invariant-loop-index l = (l.stable.items ≡ l.initial.stable.items ++ take l.index l.group.words) × (vec_capacity l.initial.stable ≤ vec_capacity l.stable) × (l.index ≤ length l.group.words)

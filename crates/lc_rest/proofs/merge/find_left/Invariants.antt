use Rattle.std.proofs.Common.{ℕ, ◌<◌, ◌≤◌, [], length, slice_index_or}
use Rattle.lc_rest.specs.Merge.{logs_of}
use Rattle.lc_rest.proofs.merge.find_left.Given as goal

abbrev pub invariant-loop-node : goal.invariant-loop-node
invariant-loop-node l = (k : ℕ) → k < l.node → length (slice_index_or (logs_of l.logs) k []) ≤ slice_index_or l.done k 0

use Rattle.std.proofs.Common.{◌≡◌, ◌≤◌, ℕ, [], length}
use Rattle.lc_rest.specs.Merge.{AreDone, AreTurns, after_turns, logs_of, times}
use Rattle.lc_rest.proofs.Merges.{records_left}
use Rattle.lc_rest.proofs.merge.merge_records.Given as goal

abbrev pub invariant-loop-node : goal.invariant-loop-node
invariant-loop-node l =
    (length l.done.items ≡ length l.logs) × (length l.numbers ≡ length l.initial.numbers)
    × AreDone (logs_of l.logs) l.done.items l.order.items
    × AreTurns (logs_of l.logs) l.initial.numbers [] l.order.items
    × (l.numbers ≡ after_turns (logs_of l.logs) l.initial.numbers [] l.order.items)
    × ((node : ℕ) → length l.logs ≤ node → times node l.order.items ≡ 0)

abbrev pub decreases-loop-node : goal.decreases-loop-node
decreases-loop-node l = records_left (logs_of l.logs) l.done.items

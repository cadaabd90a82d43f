use Rattle.std.proofs.Common.{◌≡◌, [], length, map, take}
use Rattle.lc_rest.specs.Merge.{AreDone, logs_of, merged_after}
use Rattle.lc_rest.proofs.order.in_order.Given as goal

abbrev pub invariant-loop-node : goal.invariant-loop-node
invariant-loop-node l =
    (length l.done.items ≡ length l.logs)
    × AreDone (logs_of l.logs) l.done.items (take l.node-index l.order)
    × (map (λ r. r.now) l.records.items ≡ merged_after (logs_of l.logs) [] (take l.node-index l.order))

use Rattle.std.proofs.Common.{◌≡◌, ◌+◌, take}
use Rattle.lc_rest.specs.Merge.{logs_of}
use Rattle.lc_rest.specs.Stable.{stable_count}
use Rattle.lc_rest.proofs.stable.stable_number.Given as goal

abbrev pub invariant-loop-node : goal.invariant-loop-node
invariant-loop-node l = l.number ≡ l.first + stable_count l.segment (logs_of (take l.node l.logs)) l.stable

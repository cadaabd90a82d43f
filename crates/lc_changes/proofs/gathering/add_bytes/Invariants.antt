use Rattle.std.proofs.Common.{◌≡◌, ◌++◌, take}
use Rattle.lc_changes.specs.Gathering.{bytes_at}
use Rattle.lc_changes.proofs.gathering.add_bytes.Given as goal

abbrev pub invariant-loop-range : goal.invariant-loop-range
invariant-loop-range l = l.values.items ≡ l.fn.values.items ++ bytes_at l.segment l.image (take l.range-index l.ranges)

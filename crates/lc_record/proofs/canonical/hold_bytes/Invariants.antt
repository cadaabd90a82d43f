use Rattle.std.proofs.Common.{drop}
use Rattle.std.specs.List.{AllByRecursion}
use Rattle.lc_record.specs.Record.{HoldsBytes}
use Rattle.lc_record.proofs.canonical.hold_bytes.Given as goal

abbrev pub invariant-loop-range : goal.invariant-loop-range
invariant-loop-range l = AllByRecursion HoldsBytes (drop l.range-index l.ranges) → AllByRecursion HoldsBytes l.ranges

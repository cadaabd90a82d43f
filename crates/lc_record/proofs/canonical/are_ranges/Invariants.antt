use Rattle.std.proofs.Common.{drop}
use Rattle.std.specs.Prelude.{◌↔◌}
use Rattle.std.specs.List.{AllByRecursion}
use Rattle.lc_record.specs.Record.{IsRange}
use Rattle.lc_record.proofs.canonical.are_ranges.Given as goal

abbrev pub invariant-loop-range : goal.invariant-loop-range
invariant-loop-range l = AllByRecursion IsRange (drop l.range-index l.ranges) ↔ AllByRecursion IsRange l.ranges

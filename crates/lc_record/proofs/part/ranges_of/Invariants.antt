use Rattle.std.proofs.Common.{◌≡◌, ◌==◌, filter, take}
use Rattle.lc_record.proofs.part.ranges_of.Given as goal

abbrev pub invariant-loop-range : goal.invariant-loop-range
invariant-loop-range l = l.copies.items ≡ filter (λ range. range.segment == l.segment) (take l.range-index l.ranges)

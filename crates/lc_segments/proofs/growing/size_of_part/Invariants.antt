use Rattle.std.proofs.Common.{◌≡◌, ◌+◌, ◌-◌, ◌^◌, ◌≤◌, min, drop}
use Rattle.lc_segments.specs.Growing.{ranges_size}
use Rattle.lc_segments.proofs.growing.size_of_part.Given as goal

abbrev pub invariant-loop-range : goal.invariant-loop-range
invariant-loop-range l = (l.size ≤ 2 ^ 64 - 1) × (min (2 ^ 64 - 1) (l.size + ranges_size (drop l.range-index l.range-items)) ≡ min (2 ^ 64 - 1) (l.initial.size + ranges_size l.range-items))

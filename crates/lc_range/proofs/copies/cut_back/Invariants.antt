use Rattle.std.proofs.Common.{◌≡◌}
use Rattle.lc_range.specs.RangeSet.{total_len}
use Rattle.lc_range.specs.Copies.{AreSome, first_ranges}
use Rattle.lc_range.proofs.copies.cut_back.Given as goal

abbrev pub invariant-loop-end : goal.invariant-loop-end
invariant-loop-end l = record {
  some : AreSome l.ranges.items;
  bytes : l.end ≡ total_len l.ranges.items;
  first : first_ranges l.len l.ranges.items ≡ first_ranges l.len l.initial.ranges.items;
  capacity : l.ranges.capacity ≡ l.initial.ranges.capacity;
}

abbrev pub decreases-loop-end : goal.decreases-loop-end
decreases-loop-end l = l.end

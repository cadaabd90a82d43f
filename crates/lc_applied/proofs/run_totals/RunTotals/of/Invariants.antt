use Rattle.std.proofs.Common.{◌≡◌, ◌+◌, ◌-◌, ◌^◌, ◌≤◌, length, min, drop}
use Rattle.lc_range.specs.RangeSet.{total_len}
use Rattle.lc_applied.specs.AppliedParts.{runs_of}
use Rattle.lc_applied.proofs.run_totals.RunTotals.of.Given as goal

abbrev pub invariant-loop-run : goal.invariant-loop-run
invariant-loop-run l = record {
  few : l.size.runs ≤ l.run-index;
  runs : l.size.runs + length (runs_of l.segment (drop l.run-index l.runs)) ≡ length (runs_of l.segment l.runs);
  small : l.size.bytes ≤ 2 ^ 64 - 1;
  bytes : min (2 ^ 64 - 1) (l.size.bytes + total_len (runs_of l.segment (drop l.run-index l.runs))) ≡ min (2 ^ 64 - 1) (total_len (runs_of l.segment l.runs));
}

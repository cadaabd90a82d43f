use Rattle.std.proofs.Common.{◌≡◌, ◌+◌, ◌≤◌, ◌++◌, length, drop, vec_len, vec_capacity}
use Rattle.lc_range.specs.RangeSet.{EndWithin, total_len}
use Rattle.lc_applied.specs.AppliedParts.{runs_of}
use Rattle.lc_applied.specs.AppliedPart.{bytes_of}
use Rattle.lc_applied.proofs.runs.add_runs.Given as goal

abbrev pub invariant-loop-run : goal.invariant-loop-run
invariant-loop-run l = record {
  runs : l.kept.items ++ runs_of l.segment (drop l.run-index l.runs) ≡ l.initial.kept.items ++ runs_of l.segment l.runs;
  bytes : l.bytes.items ++ bytes_of (runs_of l.segment (drop l.run-index l.runs)) l.image ≡ l.initial.bytes.items ++ bytes_of (runs_of l.segment l.runs) l.image;
  within : EndWithin (runs_of l.segment (drop l.run-index l.runs)) (length l.image);
  count : vec_len l.kept + length (runs_of l.segment (drop l.run-index l.runs)) ≡ vec_len l.initial.kept + length (runs_of l.segment l.runs);
  total : vec_len l.bytes + total_len (runs_of l.segment (drop l.run-index l.runs)) ≡ vec_len l.initial.bytes + total_len (runs_of l.segment l.runs);
  runs_capacity : vec_capacity l.kept ≡ vec_capacity l.initial.kept;
  bytes_capacity : vec_capacity l.initial.bytes ≤ vec_capacity l.bytes;
}

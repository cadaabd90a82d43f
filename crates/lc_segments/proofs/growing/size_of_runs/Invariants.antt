use Rattle.std.proofs.Common.{◌≡◌, ◌+◌, ◌-◌, ◌^◌, ◌≤◌, min, drop}
use Rattle.lc_applied.specs.AppliedParts.{runs_of}
use Rattle.lc_segments.specs.Growing.{entry_size, runs_size}
use Rattle.lc_segments.proofs.growing.size_of_runs.Given as goal

abbrev pub invariant-loop-run : goal.invariant-loop-run
invariant-loop-run l = (l.size ≤ 2 ^ 64 - 1) × (min (2 ^ 64 - 1) (l.size + runs_size (runs_of l.segment (drop l.run-index l.runs))) ≡ min (2 ^ 64 - 1) (entry_size + runs_size (runs_of l.segment l.runs)))

use Rattle.std.proofs.Common.{◌≡◌, drop}
use Rattle.lc_applied.specs.AppliedParts.{runs_of}
use Rattle.lc_segments.proofs.lending.has_run.Given as goal

abbrev pub invariant-loop-run : goal.invariant-loop-run
invariant-loop-run l = runs_of l.segment (drop l.run-index l.runs) ≡ runs_of l.segment l.runs

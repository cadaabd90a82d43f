use Rattle.std.proofs.Common.{◌≡◌, ◌++◌, ◌+◌, ◌-◌, ◌^◌, ◌<◌, ◌≤◌, length, take, drop}
use Rattle.lc_range.specs.Walk.{absorbed, merged}
use Rattle.lc_range.proofs.runs.touched.Given as goal

abbrev pub invariant-loop-end : goal.invariant-loop-end
invariant-loop-end l = record {
  ordered : l.start ≤ l.end;
  within : l.end ≤ length l.runs;
  end : l.run.offset + l.run.len < 2 ^ 32;
  rest : take l.start l.runs ++ absorbed l.run (drop l.end l.runs) ≡ merged l.range l.runs;
}

abbrev pub decreases-loop-end : goal.decreases-loop-end
decreases-loop-end l = length l.runs - l.end

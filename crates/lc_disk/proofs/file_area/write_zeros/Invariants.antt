use Rattle.std.proofs.Common.{◌-◌, ◌≤◌}
use Rattle.lc_disk.proofs.file_area.write_zeros.Given as goal

abbrev pub invariant-loop-at : goal.invariant-loop-at
invariant-loop-at g l = l.at ≤ l.len

abbrev pub decreases-loop-at : goal.decreases-loop-at
decreases-loop-at g l = l.len - l.at

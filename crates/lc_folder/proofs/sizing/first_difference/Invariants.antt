use Rattle.std.proofs.Common.{◌≡◌, ◌<◌, ◌≤◌, ◌-◌, ℕ}
use Rattle.lc_recover.specs.Reads.{area_count}
use Rattle.lc_folder.specs.Files.{file_at}
use Rattle.lc_folder.proofs.sizing.first_difference.Given as goal

abbrev pub invariant-loop-file : goal.invariant-loop-file
invariant-loop-file l = record {
  few : l.area ≤ area_count l.one;
  few_others : l.area ≤ area_count l.other;
  same : (before : ℕ) → before < l.area → file_at l.one before ≡ file_at l.other before;
}

abbrev pub decreases-loop-file : goal.decreases-loop-file
decreases-loop-file l = area_count l.one - l.area

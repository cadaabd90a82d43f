use Rattle.std.proofs.Common.{◌≡◌, ◌<◌, ◌≤◌, ℕ, Some, None}
use Rattle.std.specs.Prelude.{slice_get}
use Rattle.lc_folder.proofs.file_row.FileRow.of.Given as goal

abbrev pub invariant-loop-place : goal.invariant-loop-place
invariant-loop-place l = record {
  few : l.count ≤ l.place;
  there : (k : ℕ) → k < l.count → slice_get l.lens k ≡ Some (Some l.first);
  no_more : (k : ℕ) → l.count ≤ k → k < l.place → slice_get l.lens k ≡ Some None;
}

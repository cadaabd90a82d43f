use Rattle.std.proofs.Common.{◌≡◌, ◌≢◌, ◌+◌, ◌<◌, ◌≤◌, ℕ}
use Rattle.std.specs.Prelude.{slice_index_or}
use Rattle.lc_look.proofs.drawing.trailing_words.Given as goal

abbrev pub invariant-loop-place : goal.invariant-loop-place
invariant-loop-place l = record {
  few : l.trailing ≤ l.place;
  zeros : (k : ℕ) → l.trailing ≤ k → k < l.place → slice_index_or l.words k 0 ≡ 0;
  last : (k : ℕ) → l.trailing ≡ k + 1 → slice_index_or l.words k 0 ≢ 0;
}

use Rattle.std.proofs.Common.{◌≡◌, ℕ, ◌<◌, ◌≤◌, true, [], Some}
use Rattle.std.specs.Prelude.{slice_get, slice_index_or}
use Rattle.lc_core.specs.Areas.{IsStopped}
use Rattle.lc_core.proofs.lives.stop_all.Given as goal

abbrev pub invariant-loop-place : goal.invariant-loop-place
invariant-loop-place g l = record {
  stopped : (k : ℕ) (old new : g.row.D.Denot) → k < l.place → slice_get l.fn.areas k ≡ Some old → slice_get l.areas k ≡ Some new → IsStopped g.D.Area old new;
  chosen : (k : ℕ) (old new : g.row.D.Denot) → k < l.place → slice_get l.fn.areas k ≡ Some old → slice_get l.areas k ≡ Some new → g.D.Area.honest old ≡ true
      → (at : ℕ) → slice_index_or (g.D.Area.now new) at 0 ≡ g.D.Stoppable.left old (slice_index_or l.fn.choices k []) at;
  rest : (k : ℕ) → l.place ≤ k → slice_get l.areas k ≡ slice_get l.fn.areas k;
}

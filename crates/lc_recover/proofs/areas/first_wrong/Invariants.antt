use Rattle.std.proofs.Common.{◌≡◌, length, map, ℕ, ◌<◌, true, Some}
use Rattle.std.specs.Prelude.{slice_get, slice_index_or}
use Rattle.lc_recover.specs.Reads.{area_len}
use Rattle.lc_recover.proofs.areas.first_wrong.Given as goal

abbrev pub invariant-loop-place : goal.invariant-loop-place
invariant-loop-place g l =
    ((k : ℕ) → k < l.place → slice_get (map (λ d. length (g.D.Area.now d)) l.areas) k ≡ area_len l.geometry k)
    × ((k : ℕ) (device : g.row.D.Denot) → k < l.place → slice_get l.areas k ≡ Some device → g.D.Area.honest device ≡ true → (at : ℕ) → slice_index_or (g.D.Area.now device) at 0 < 256)

use Rattle.std.proofs.Common.{◌≡◌, ℕ, ◌≤◌, Some, length, vec_capacity, vec_len}
use Rattle.std.specs.Prelude.{slice_get}
use Rattle.std.specs.Global.{Vec}
use Rattle.lc_reading.specs.AsRead.{IsAsRead}
use Rattle.lc_reading.proofs.reading_areas.read_areas.Given as goal

abbrev pub invariant-loop-area : goal.invariant-loop-area
invariant-loop-area g l = record {
  count : vec_len l.read ≡ l.area-index;
  room : length l.initial.areas ≤ vec_capacity l.read;
  behind : (k : ℕ) → l.area-index ≤ k → slice_get l.areas k ≡ slice_get l.initial.areas k;
  read : (k : ℕ) (bytes : Vec ℕ) → slice_get l.read.items k ≡ Some bytes → (old new : g.row.D.Denot) → slice_get l.initial.areas k ≡ Some old → slice_get l.areas k ≡ Some new
      → IsAsRead g.D.Area old new bytes.items;
}

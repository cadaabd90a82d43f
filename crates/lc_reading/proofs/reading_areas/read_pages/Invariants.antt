use Rattle.std.proofs.Common.{◌≡◌, ℕ, Some, vec_len}
use Rattle.std.specs.Prelude.{slice_get}
use Rattle.std.specs.Global.{Vec}
use Rattle.lc_rest.specs.Replay.{AreBytes}
use Rattle.lc_reading.proofs.reading_areas.read_pages.Given as goal

abbrev pub invariant-loop-area : goal.invariant-loop-area
invariant-loop-area l = record {
  count : vec_len l.pages ≡ l.area-index;
  pages : (k : ℕ) (bytes : Vec ℕ) → slice_get l.pages.items k ≡ Some bytes → (area : Vec ℕ) → slice_get l.areas k ≡ Some area → AreBytes area.items l.geometry.pages bytes.items;
}

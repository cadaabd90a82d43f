-- The records, the areas and the pages that are read of a cluster at rest.
use Rattle.std.specs.Prelude.{◌≡◌, ℕ, ◌*◌, ◌<◌, List, [], All, length, slice_get, slice_index_or, Some}
use Rattle.std.specs.Global.{Vec}
use Rattle.lc_log.specs.LogText.{IsWhole}
use Rattle.lc_record.specs.declared.geometry.Geometry.{Geometry}
use Rattle.lc_record.specs.declared.record.Record.{Record}
use Rattle.lc_rest.specs.Merge.{logs_of}
use Rattle.lc_rest.specs.Replay.{AreBytes}

-- each record has a spelling
abbrev pub AreWhole : List (Vec Record) → Type 0
AreWhole logs = (n : ℕ) → All IsWhole (slice_index_or (logs_of logs) n [])

-- bytes, of two slots a page
pub record IsArea (g : Geometry) (area : List ℕ) : Type 0 where
  pub len : length area ≡ 2 * 272 * g.pages
  pub of_bytes : (at : ℕ) → slice_index_or area at 0 < 256

abbrev pub AreAreas : Geometry → List (Vec ℕ) → Type 0
AreAreas g areas = (k : ℕ) (area : Vec ℕ) → slice_get areas k ≡ Some area → IsArea g area.items

-- the bytes are those of the pages of the areas
abbrev pub AreStarts : Geometry → List (Vec ℕ) → List (Vec ℕ) → Type 0
AreStarts g areas starts = (k : ℕ) (area bytes : Vec ℕ) → slice_get areas k ≡ Some area → slice_get starts k ≡ Some bytes → AreBytes area.items g.pages bytes.items

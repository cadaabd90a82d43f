-- Of the store: the areas of the segments and the writes of their pages, against the numbers.
use Rattle.std.specs.Prelude.{◌≡◌, ℕ, List, map, Some, slice_get}
use Rattle.lc_disk.specs.declared.area.Area.{Ghosts}
use Rattle.lc_record.specs.declared.geometry.Geometry.{Geometry}
use Rattle.lc_core.specs.PageState.{resting}
use Rattle.lc_desk.specs.declared.pages.Pages.{Pages}

module _ {D : Type 0} (a : Ghosts D) where
  abbrev pub areas_of : List (Pages D a) → List D
  areas_of segments = map (λ (pages : Pages D a). pages.area) segments

  -- no page of these segments is being written
  abbrev pub RestsAll : Geometry → List (Pages D a) → Type 0
  RestsAll g segments = (k : ℕ) (pages : Pages D a) → slice_get segments k ≡ Some pages → pages.writes.items ≡ resting g

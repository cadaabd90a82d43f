-- Of the store: what it is that the step of a page write follows the machine and the numbers, at a node and in a
-- segment's area.
use Rattle.std.specs.Prelude.{◌≡◌, ℕ, ◌+◌, List, Some, slice_get}
use Rattle.lc_disk.specs.declared.area.Area.{Ghosts}
use Rattle.lc_model.specs.State.{State}
use Rattle.lc_desk.specs.declared.pages.Pages.{Pages}
use Rattle.lc_events.specs.Paging.{HaltsFailed}

module _ {D : Type 0} (a : Ghosts D) where
  -- so it is for all segments
  abbrev pub HaltAll : State → List (Pages D a) → Type 0
  HaltAll s segments = (k : ℕ) (pages : Pages D a) → slice_get segments k ≡ Some pages → (HaltsFailed a) s (k + 1) pages

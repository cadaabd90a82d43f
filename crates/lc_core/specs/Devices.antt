-- The areas of a store that is up: how long they are, that they keep to the model of a disk, and how many pages each has.
use Rattle.std.specs.Prelude.{◌≡◌, ℕ, true, List, length, Some, option_map, slice_get}
use Rattle.lc_disk.specs.declared.area.Area.{Ghosts}
use Rattle.lc_journal.specs.Log.{area_of}
use Rattle.lc_events.specs.declared.node_state.NodeState.{NodeState}
use Rattle.lc_desk.specs.declared.pages.Pages.{Pages}

module _ {D : Type 0} (a : Ghosts D) where
  -- each node's log has an area of this length
  abbrev pub HaveLogs : ℕ → List (NodeState D a) → Type 0
  HaveLogs len nodes = (n : ℕ) (node : NodeState D a) → slice_get nodes n ≡ Some node
      → option_map (λ (area : D). length (a.now area)) (area_of a node.journal.log) ≡ Some len

  -- each segment's area has this length
  abbrev pub HaveSegments : ℕ → List (Pages D a) → Type 0
  HaveSegments len segments = (k : ℕ) (pages : Pages D a) → slice_get segments k ≡ Some pages → length (a.now pages.area) ≡ len

  -- each segment has this many pages
  abbrev pub HavePages : ℕ → List (Pages D a) → Type 0
  HavePages count segments = (k : ℕ) (pages : Pages D a) → slice_get segments k ≡ Some pages → length pages.writes.items ≡ count

  -- those of the logs keep to the model of a disk
  abbrev pub HonestLogs : List (NodeState D a) → Type 0
  HonestLogs nodes = (n : ℕ) (node : NodeState D a) (area : D) → slice_get nodes n ≡ Some node → area_of a node.journal.log ≡ Some area → a.honest area ≡ true

  -- those of the segments
  abbrev pub HonestSegments : List (Pages D a) → Type 0
  HonestSegments segments = (k : ℕ) (pages : Pages D a) → slice_get segments k ≡ Some pages → a.honest pages.area ≡ true

-- Of the store: what stands ready before the pages of a store are known, and how its nodes are filled with them.
use Rattle.std.specs.Prelude.{◌≡◌, ℕ, List, Some, slice_get}
use Rattle.lc_disk.specs.declared.area.Area.{Ghosts}
use Rattle.lc_record.specs.declared.geometry.Geometry.{Geometry}
use Rattle.lc_recover.specs.Recovered.{RecoveredStore}
use Rattle.lc_events.specs.declared.node_state.NodeState.{NodeState}
use Rattle.lc_events.specs.Blank.{IsBlankNode, IsFilledNode}

module _ {D : Type 0} (a : Ghosts D) where
  abbrev pub AreBlankNodes : Geometry → List (NodeState D a) → Type 0
  AreBlankNodes g nodes = (n : ℕ) (node : NodeState D a) → slice_get nodes n ≡ Some node → (IsBlankNode a) g n node

  abbrev pub AreFilledNodes : RecoveredStore D → List (NodeState D a) → Type 0
  AreFilledNodes r nodes = (n : ℕ) (node : NodeState D a) → slice_get nodes n ≡ Some node → (IsFilledNode a) r n node

-- The nodes of a store, and what each has room for.
use Rattle.std.specs.Prelude.{◌≡◌, ℕ, ◌+◌, List, Option, Some, slice_get, vec_len}
use Rattle.lc_disk.specs.declared.area.Area.{Ghosts}
use Rattle.lc_record.specs.declared.geometry.Geometry.{Geometry}
use Rattle.lc_token.specs.declared.token.Token.{Token}
use Rattle.lc_events.specs.declared.node_state.NodeState.{NodeState}

-- each token on its way is of the segment of its place
abbrev pub AreNamed : List (Option Token) → Type 0
AreNamed tokens = (k : ℕ) (token : Token) → slice_get tokens k ≡ Some (Some token) → token.segment ≡ k + 1

module _ {D : Type 0} (a : Ghosts D) where
  -- each node has a seat for each thread, and a slot for each segment
  pub record IsWhole (g : Geometry) (node : NodeState D a) : Type 0 where
    pub seats : vec_len node.desk.seats ≡ g.threads
    pub slots : vec_len node.desk.here.slots ≡ g.segments

  abbrev pub AreWhole : Geometry → List (NodeState D a) → Type 0
  AreWhole g nodes = (n : ℕ) (node : NodeState D a) → slice_get nodes n ≡ Some node → IsWhole g node

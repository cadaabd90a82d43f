-- What a stop may cut at.
use Rattle.std.specs.Prelude.{◌≡◌, ℕ, ◌<◌, ◌≤◌, ◌⊎◌, length, slice_index}
use Rattle.lc_record.specs.declared.geometry.Geometry.{Geometry}
use Rattle.lc_model.specs.History.{Cut, IsClosed}
use Rattle.lc_model.specs.State.{State}

-- at a node: at what was acknowledged, or at what a flush took whose gate may be open
abbrev pub MayCutAt : State → ℕ → ℕ → Type 0
MayCutAt s node number =
    (number ≡ s.ack node) ⊎ ((3 ≤ (s.flush node).steps) × (number ≡ (s.flush node).taken))

-- a closed cut with such a number for each node
abbrev pub MayCut : Geometry → State → Cut → Type 0
MayCut g s cut = (length cut ≡ g.nodes) × IsClosed s.history cut
    × ((node : ℕ) → node < g.nodes → MayCutAt s node (slice_index cut node))

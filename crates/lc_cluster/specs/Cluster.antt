-- The nodes of a cluster.
use Rattle.std.specs.Prelude.{◌≡◌, ◌<◌, ℕ, Option, option_map, Some, length, slice_get}
use Rattle.lc_stage.specs.Seats.{commit_view, IsSeatOf, IsIdle}
use Rattle.lc_stage.specs.declared.seats.CommitSeat.{CommitSeat}
use Rattle.lc_cluster.specs.declared.cluster.Cluster.{Cluster}
use Rattle.lc_node.specs.declared.node.Node.{Node}

module _ {D : Type 0} where
  abbrev pub node_at : Cluster D → ℕ → Option (Node D)
  node_at cluster node = option_map (λ member. member.node) (slice_get cluster.members.items node)

  -- the cluster has a node of this number
  abbrev pub HasNode : Cluster D → ℕ → Type 0
  HasNode cluster node = node < length cluster.members.items

  -- it is a committer's seat of the node with this number, with nothing open
  abbrev pub IsSeatAt : Cluster D → ℕ → CommitSeat → Type 0
  IsSeatAt cluster number seat = (node : Node D) × (node_at cluster number ≡ Some node) × IsSeatOf node.stage seat × IsIdle (commit_view seat)

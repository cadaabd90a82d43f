-- How the nodes of a recovered store come up in a cluster.
use Rattle.std.specs.Prelude.{◌≡◌, ℕ, List, Some, slice_get}
use Rattle.lc_stage.specs.declared.seats.CommitSeat.{CommitSeat}
use Rattle.lc_node.specs.FreshNode.{ComesUp}
use Rattle.lc_node.specs.declared.fresh_node.FreshNode.{FreshNode}
use Rattle.lc_cluster.specs.declared.cluster.Cluster.{Cluster}
use Rattle.lc_cluster.specs.declared.member.Member.{Member}

module _ {D : Type 0} where
  -- the node of each member, with the seat at its place, is what came up from the node that was to come up there
  abbrev pub ComeUpIn : List (FreshNode D) → Cluster D → List CommitSeat → Type 0
  ComeUpIn fresh cluster seats =
      (place : ℕ) (member : Member D) (seat : CommitSeat) → slice_get cluster.members.items place ≡ Some member → slice_get seats place ≡ Some seat
      → (f : FreshNode D) × (slice_get fresh place ≡ Some f) × ComesUp f (record { node = member.node; seat = seat })

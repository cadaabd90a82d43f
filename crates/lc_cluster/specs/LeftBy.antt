-- Of a cluster: what a cluster leaves once its threads have ended.
use Rattle.std.specs.Prelude.{◌≡◌, ℕ, List, Some, All, length, slice_get}
use Rattle.std.specs.Global.{Vec}
use Rattle.lc_stage.specs.declared.seats.CommitSeat.{CommitSeat}
use Rattle.lc_cluster.specs.Cluster.{IsSeatAt}
use Rattle.lc_segments.specs.Journey.{Journey}
use Rattle.lc_cluster.specs.declared.cluster.Cluster.{Cluster}
use Rattle.lc_cluster.specs.declared.joining.Post.{Post}
use Rattle.lc_cluster.specs.declared.member.Member.{Member}
use Rattle.lc_node.specs.declared.node.Node.{Node}
use Rattle.lc_log_side.specs.LeftBy.{IsIdleSeatOf}

module _ {D : Type 0} where
  -- for each node there is a list of seats of its own, with nothing open, which may be empty
  pub record AreOwnSeats (cluster : Cluster D) (seats : List (Vec CommitSeat)) : Type 0 where
    pub count : length seats ≡ length cluster.members.items
    pub own : (node : ℕ) (mine : Vec CommitSeat) → slice_get seats node ≡ Some mine → All (IsSeatAt cluster node) mine.items

  -- so it is with these nodes
  pub record HaveOwnSeats (nodes : List (Node D)) (seats : List (Vec CommitSeat)) : Type 0 where
    pub count : length seats ≡ length nodes
    pub own : (place : ℕ) (node : Node D) (mine : Vec CommitSeat) → slice_get nodes place ≡ Some node → slice_get seats place ≡ Some mine → All (IsIdleSeatOf node.stage) mine.items

-- Members

module _ {D : Type 0} where
  abbrev pub node_in : Member D → Node D
  node_in member = member.node

  -- the ends beside the node
  abbrev pub post_of : Member D → Post (Journey D)
  post_of member = record { to = member.to; from = member.from }

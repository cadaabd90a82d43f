-- What the calls of a cluster did under the locks that they got: what was there, and what was put back.
use Rattle.std.specs.Prelude.{◌≡◌, ◌≢◌, ℕ, List, Some, Result, slice_get}
use Rattle.lc_disk.specs.declared.area.Area.{Ghosts}
use Rattle.lc_lock.specs.Loans.{key_of}
use Rattle.lc_cluster.specs.Cluster.{node_at}
use Rattle.lc_cluster.specs.Giving.{CutsOff, SendsToken}
use Rattle.lc_node.specs.Held.{HasSegment}
use Rattle.lc_segments.specs.Journey.{Journey}
use Rattle.lc_log_side.specs.LogView.{LogView}
use Rattle.lc_node.specs.Logs.{IsLogOf}
use Rattle.lc_node.specs.Parting.{LacksToken, PartsWithIn}
use Rattle.lc_cluster.specs.Peers.{place_of}
use Rattle.lc_log_side.specs.Published.{published}
use Rattle.lc_cluster.specs.Reached.{Pumps}
use Rattle.lc_cluster.specs.Receiving.{SameOrigins}
use Rattle.lc_cluster.specs.Spread.{SameLines, Spreads}
use Rattle.lc_cluster.specs.declared.cluster.Cluster.{Cluster}
use Rattle.lc_cluster.specs.declared.member.Member.{Member}
use Rattle.lc_node.specs.declared.node.Node.{Node}
use Rattle.lc_segments.specs.declared.node_fault.NodeFault.{NodeFault}
use Rattle.lc_cluster.specs.declared.peer_end.PeerEnd.{PeerEnd}
use Rattle.lc_cluster.specs.declared.peer_inbox.PeerInbox.{PeerInbox}
use Rattle.lc_node.specs.declared.pumped.Pumped.{Pumped}
use Rattle.lc_cluster.specs.declared.spreading.Spread.{Spread}

module _ {D : Type 0} where
  -- the ends are those by which this member sends to its peers
  abbrev pub AreEndsOf : Member D → List (PeerEnd (Journey D)) → Type 0
  AreEndsOf member ends = SameLines (key_of member.to).to.ends.items ends

  -- the node of this number has the segment
  abbrev pub HasSegmentAt : Cluster D → ℕ → ℕ → Type 0
  HasSegmentAt cluster number segment = (node : Node D) × (node_at cluster number ≡ Some node) × HasSegment node segment

  -- the node of this number spread what its log had published, and this is the answer
  pub record SpreadsAt (cluster : Cluster D) (number : ℕ) (spread : Spread) : Type 0 where
    pub member : Member D
    pub at : slice_get cluster.members.items number ≡ Some member
    pub log : LogView D
    pub own : IsLogOf member.node log
    pub old : List (PeerEnd (Journey D))
    pub wired : AreEndsOf member old
    pub new : List (PeerEnd (Journey D))
    pub spreads : Spreads log.gone (published log) old spread new

  -- the node of this number went on with what another had sent it, and this is the answer: with the message that it kept of that one,
  -- and else with the next; those of others stay
  pub record PumpsAt (cluster : Cluster D) (to from : ℕ) (answer : Result Pumped NodeFault) : Type 0 where
    pub member : Member D
    pub at : slice_get cluster.members.items to ≡ Some member
    pub old : List (PeerInbox (Journey D))
    pub wired : SameOrigins (key_of member.from).from.ends.items old
    pub new : List (PeerInbox (Journey D))
    pub lines : SameOrigins old new
    pub pumps : Pumps member.node old (place_of to from) answer new
    pub others : (other : ℕ) → other ≢ place_of to from → slice_get new other ≡ slice_get old other

  -- this member sent the token to the peer of this number, and it could not
  abbrev pub SendsTo : Member D → ℕ → ℕ → Journey D → Type 0
  SendsTo member from to = SendsToken (key_of member.to).to.ends.items (place_of from to)

  abbrev pub IsCutOffFrom : Member D → ℕ → ℕ → Type 0
  IsCutOffFrom member from to = CutsOff (key_of member.to).to.ends.items (place_of from to)

  -- the node of this number has no such segment, and answered so
  pub record LacksTokenAt (cluster : Cluster D) (from segment : ℕ) (answer : Result (Unit {0}) NodeFault) : Type 0 where
    pub node : Node D
    pub at : node_at cluster from ≡ Some node
    pub lacks : LacksToken node segment answer

module _ {D : Type 0} (a : Ghosts D) where
  -- the node of this number handed the token of the segment over to another, or refused to, and this is the answer
  pub record HandsOverAt (cluster : Cluster D) (from to segment : ℕ) (answer : Result (Unit {0}) NodeFault) : Type 0 where
    pub member : Member D
    pub at : slice_get cluster.members.items from ≡ Some member
    pub number : member.node.number ≡ from
    pub parts : PartsWithIn a member.node segment to (SendsTo member from to) (IsCutOffFrom member from to) answer

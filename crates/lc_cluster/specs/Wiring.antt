-- The lines of a cluster: one from each node to each other.
use Rattle.std.specs.Prelude.{◌≡◌, ◌≢◌, ◌<◌, ◌≤◌, ℕ, ◌+◌, List, [], length, All, Option, Some, None, option_and_then, slice_get, vec_len}
use Rattle.lc_cluster.specs.Peers.{place_of}
use Rattle.lc_cluster.specs.Receiving.{taken_of, origin_of}
use Rattle.lc_cluster.specs.Spread.{sent_to, line_of}
use Rattle.lc_cluster.specs.declared.peer_end.PeerEnd.{PeerEnd}
use Rattle.lc_cluster.specs.declared.peer_inbox.PeerInbox.{PeerInbox}
use Rattle.lc_cluster.specs.declared.wiring.NodeEnds.{NodeEnds}

-- how many ends a node has to others, where there is a line from each node below `from` to each other, and from that one to
-- each other below `to`
pub record HasSends (nodes from to node count : ℕ) : Type 0 where
  pub below : node < from → count + 1 ≡ nodes
  pub here : node ≡ from → to ≤ from → count ≡ to
  pub past : node ≡ from → from < to → count + 1 ≡ to
  pub above : from < node → count ≡ 0

-- and how many it has from others
pub record HasTakes (from to node count : ℕ) : Type 0 where
  pub reached : node < to → node ≤ from → count ≡ from
  pub reached_above : node < to → from < node → count ≡ from + 1
  pub left : to ≤ node → node < from → count + 1 ≡ from
  pub left_above : to ≤ node → from ≤ node → count ≡ from

module _ {P : Type 0} where
  -- a node has an end to each other node of a cluster of so many, and one from each
  abbrev pub HasPeers : ℕ → NodeEnds P → Type 0
  HasPeers nodes mine = (vec_len mine.to.ends + 1 ≡ nodes) × (vec_len mine.from.ends + 1 ≡ nodes)

  -- nothing was sent
  abbrev pub IsUnsent : PeerEnd P → Type 0
  IsUnsent peer = sent_to peer ≡ []

  -- nothing was taken, and nothing is kept
  abbrev pub IsUntaken : PeerInbox P → Type 0
  IsUntaken inbox = (taken_of inbox ≡ []) × (inbox.kept ≡ None)

  abbrev pub IsUnused : NodeEnds P → Type 0
  IsUnused mine = All IsUnsent mine.to.ends.items × All IsUntaken mine.from.ends.items

  -- the end by which a node sends to a peer, and the one by which it takes from it
  abbrev pub end_to : List (NodeEnds P) → ℕ → ℕ → Option (PeerEnd P)
  end_to all node peer = option_and_then (λ (mine : NodeEnds P). slice_get mine.to.ends.items (place_of node peer)) (slice_get all node)

  abbrev pub inbox_from : List (NodeEnds P) → ℕ → ℕ → Option (PeerInbox P)
  inbox_from all node peer = option_and_then (λ (mine : NodeEnds P). slice_get mine.from.ends.items (place_of node peer)) (slice_get all node)

  -- a line leads from one node to another
  abbrev pub IsLine : List (NodeEnds P) → ℕ → ℕ → Type 0
  IsLine all from to =
      (peer : PeerEnd P) × (inbox : PeerInbox P) × (end_to all from to ≡ Some peer) × (inbox_from all to from ≡ Some inbox) × (origin_of inbox ≡ line_of peer)

  -- from each to each other
  abbrev pub AreLines : ℕ → List (NodeEnds P) → Type 0
  AreLines nodes all = (from to : ℕ) → from < nodes → to < nodes → from ≢ to → IsLine all from to

  -- the receiving ends of each know its number
  abbrev pub AreNumbered : List (NodeEnds P) → Type 0
  AreNumbered all = (node : ℕ) (mine : NodeEnds P) → slice_get all node ≡ Some mine → mine.from.node ≡ node

  -- there is a line from each node below `from` to each other, and from that one to each other below `to`, and no other line
  pub record AreWired (nodes from to : ℕ) (all : List (NodeEnds P)) : Type 0 where
    pub count : length all ≡ nodes
    pub numbers : AreNumbered all
    pub sends : (node : ℕ) (mine : NodeEnds P) → slice_get all node ≡ Some mine → HasSends nodes from to node (length mine.to.ends.items)
    pub takes : (node : ℕ) (mine : NodeEnds P) → slice_get all node ≡ Some mine → HasTakes from to node (length mine.from.ends.items)
    pub unused : All IsUnused all
    pub lines : (one other : ℕ) → one < from → other < nodes → one ≢ other → IsLine all one other
    pub last : (other : ℕ) → other < to → from ≢ other → IsLine all from other

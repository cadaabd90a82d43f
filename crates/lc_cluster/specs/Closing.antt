-- What is still on its way between nodes when their lines are closed.
use Rattle.std.specs.Prelude.{◌≡◌, ◌≢◌, ◌<◌, ℕ, List, [], ◌∷◌, ◌++◌, drop, length, Option, Some, None, slice_get}
use Rattle.lc_cluster.specs.Messages.{tokens_among}
use Rattle.lc_cluster.specs.Receiving.{origin_of, taken_of}
use Rattle.lc_cluster.specs.Spread.{line_of, sent_to}
use Rattle.lc_cluster.specs.Wiring.{end_to, inbox_from}
use Rattle.lc_node.specs.declared.message.Message.{Message}
use Rattle.lc_cluster.specs.declared.peer_end.PeerEnd.{PeerEnd}
use Rattle.lc_cluster.specs.declared.peer_inbox.PeerInbox.{PeerInbox}
use Rattle.lc_cluster.specs.declared.wiring.NodeEnds.{NodeEnds}

module _ {P : Type 0} where
  -- the token that is kept to be gone on with, if one is
  abbrev pub kept_token : Option (Message P) → List P
  kept_token None = []
  kept_token (Some message) = tokens_among (message ∷ [])

  -- the tokens of a line: the one that its receiving end keeps, and those among what was sent and not taken
  abbrev pub left_on : PeerEnd P → PeerInbox P → List P
  left_on peer inbox = kept_token inbox.kept ++ tokens_among (drop (length (taken_of inbox)) (sent_to peer))

  -- these stand side by side among those
  abbrev pub StandIn : List P → List P → Type 0
  StandIn few all = (front : List P) × (behind : List P) × (all ≡ front ++ (few ++ behind))

  -- the ends are those of one line
  abbrev pub AreOfOne : Option (PeerEnd P) → Option (PeerInbox P) → Type 0
  AreOfOne to from = (peer : PeerEnd P) × (inbox : PeerInbox P) × (to ≡ Some peer) × (from ≡ Some inbox) × (origin_of inbox ≡ line_of peer)

  -- the tokens of the line whose ends they are stand among these
  abbrev pub Gives : Option (PeerEnd P) → Option (PeerInbox P) → List P → Type 0
  Gives to from tokens = (peer : PeerEnd P) (inbox : PeerInbox P) → to ≡ Some peer → from ≡ Some inbox → StandIn (left_on peer inbox) tokens

  -- so it is with each line
  abbrev pub GivesAll : List (NodeEnds P) → List P → Type 0
  GivesAll all tokens = (from to : ℕ) → from < length all → to < length all → from ≢ to → Gives (end_to all from to) (inbox_from all to from) tokens

  -- there are some more after those that there were
  abbrev pub Grows : List P → List P → Type 0
  Grows old new = (more : List P) × (new ≡ old ++ more)

  -- the first end to a peer and the first one from a peer are gone
  pub record IsBehindFirst (old new : NodeEnds P) : Type 0 where
    pub to : new.to.ends.items ≡ drop 1 old.to.ends.items
    pub from : new.from.ends.items ≡ drop 1 old.from.ends.items

  -- both lines between a node and a peer, at this place among its ends and the first among the peer's
  pub record AreJoined (place : ℕ) (mine peer : NodeEnds P) : Type 0 where
    pub there : AreOfOne (slice_get mine.to.ends.items place) (slice_get peer.from.ends.items 0)
    pub back : AreOfOne (slice_get peer.to.ends.items 0) (slice_get mine.from.ends.items place)

  -- and their tokens
  pub record GivesBoth (place : ℕ) (mine peer : NodeEnds P) (tokens : List P) : Type 0 where
    pub there : Gives (slice_get mine.to.ends.items place) (slice_get peer.from.ends.items 0) tokens
    pub back : Gives (slice_get peer.to.ends.items 0) (slice_get mine.from.ends.items place) tokens

-- What of a node's published records was sent to its peers.
use Rattle.std.specs.Prelude.{◌≡◌, ◌⊎◌, ◌≤◌, All, ℕ, ◌+◌, ◌-◌, ◌^◌, true, List, ◌++◌, length, min, Some, slice_get, map, sum_by}
use Rattle.atomic_table.specs.Seated.{TableId}
use Rattle.atomic_table.specs.declared.badge.Badge.{Badge}
use Rattle.crossbeam_channel.specs.declared.flavors.array.Key.{Key}
use Rattle.lc_line.specs.Ends.{sent_on, line_to, WasFull}
use Rattle.lc_cluster.specs.Messages.{records_in, tokens_among, numbered}
use Rattle.lc_node.specs.declared.message.Message.{Message}
use Rattle.lc_cluster.specs.declared.peer_end.PeerEnd.{PeerEnd}
use Rattle.lc_cluster.specs.declared.spreading.Spread.{Spread}
use Rattle.lc_segments.specs.Each.{Each}

module _ {P : Type 0} where
  -- what was sent to a peer, oldest first
  abbrev pub sent_to : PeerEnd P → List (Message P)
  sent_to peer = sent_on peer.end

  -- the line on which it was
  abbrev pub line_of : PeerEnd P → TableId × Badge (Key (Message P))
  line_of peer = line_to peer.end

  -- the records that were sent to a peer are the first so many of those that are published, numbered from 1
  abbrev pub IsPrefix : List (List ℕ) → PeerEnd P → Type 0
  IsPrefix published peer =
      (front : List (List ℕ)) × (behind : List (List ℕ)) × (published ≡ front ++ behind) × (records_in (sent_to peer) ≡ numbered 1 front)

  -- how many records were sent to a peer
  abbrev pub count_of : PeerEnd P → ℕ
  count_of peer = length (records_in (sent_to peer))

  -- the next records were sent to a peer with the next numbers, 64 at most
  abbrev pub SendsFew : PeerEnd P → PeerEnd P → Type 0
  SendsFew old new =
      (records : List (List ℕ)) × (length records ≤ 64) × (records_in (sent_to new) ≡ records_in (sent_to old) ++ numbered (count_of old + 1) records)

  -- a peer is sent nothing more for now: its line held 64 messages at one moment, or its receiving end is gone
  abbrev pub IsCutOff : PeerEnd P → Type 0
  IsCutOff peer = WasFull peer.end ⊎ (peer.gone ≡ true)

  -- a peer was sent 64 records more, or all that are published where these are fewer, if it was not cut off
  abbrev pub SendsMost : List (List ℕ) → PeerEnd P → PeerEnd P → Type 0
  SendsMost published old new = (count_of new ≡ min (count_of old + 64) (length published)) ⊎ IsCutOff new

  -- so many words in front were dropped, which the peer was sent
  abbrev pub LacksNoneOf : ℕ → PeerEnd P → Type 0
  LacksNoneOf gone peer = gone ≤ peer.place

  -- what holds of each peer
  abbrev pub ArePrefixes : List (List ℕ) → List (PeerEnd P) → Type 0
  ArePrefixes published peers = (k : ℕ) (peer : PeerEnd P) → slice_get peers k ≡ Some peer → IsPrefix published peer

  -- how many records were sent to all peers, and how many of those that are published were not, those of each peer counted
  abbrev pub sent_in : List (PeerEnd P) → ℕ
  sent_in peers = sum_by count_of peers

  abbrev pub missing_in : List (List ℕ) → List (PeerEnd P) → ℕ
  missing_in published peers = sum_by (λ (peer : PeerEnd P). length published - count_of peer) peers

  -- the tokens that were sent to each peer
  abbrev pub tokens_in : List (PeerEnd P) → List (List P)
  tokens_in peers = map (λ (peer : PeerEnd P). tokens_among (sent_to peer)) peers

  -- the same peers, each on its line
  abbrev pub SameLines : List (PeerEnd P) → List (PeerEnd P) → Type 0
  SameLines old new = map line_of new ≡ map line_of old

  -- so much of what is published was sent to these peers, and so much is left
  pub record Spreads (gone : ℕ) (published : List (List ℕ)) (old : List (PeerEnd P)) (spread : Spread) (new : List (PeerEnd P)) : Type 0 where
    pub prefix : ArePrefixes published old → ArePrefixes published new
    pub few : Each SendsFew old new
    pub most : ArePrefixes published old → All (LacksNoneOf gone) old → Each (SendsMost published) old new
    pub sent : sent_in new ≡ sent_in old + spread.sent
    pub left : spread.left ≡ min (2 ^ 64 - 1) (missing_in published new)
    pub tokens : tokens_in new ≡ tokens_in old
    pub lines : SameLines old new

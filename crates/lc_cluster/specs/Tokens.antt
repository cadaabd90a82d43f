-- A token that is sent to a peer.
use Rattle.std.specs.Prelude.{◌≡◌, ℕ, List, [], map, Option, Some, None, slice_get}
use Rattle.lc_line.specs.Ends.{WasFull}
use Rattle.lc_cluster.specs.Messages.{records_in}
use Rattle.lc_cluster.specs.Spread.{sent_to, IsCutOff}
use Rattle.lc_node.specs.declared.message.Message.{Message}
use Rattle.lc_cluster.specs.declared.peer_end.PeerEnd.{PeerEnd}

module _ {P : Type 0} where
  abbrev pub sent_by : Option (PeerEnd P) → List (Message P)
  sent_by (Some peer) = sent_to peer
  sent_by None = []

  -- what was sent to the peer at this place, oldest first; nothing where there is none
  abbrev pub sent_at : List (PeerEnd P) → ℕ → List (Message P)
  sent_at ends place = sent_by (slice_get ends place)

  abbrev pub WasFullBy : Option (PeerEnd P) → Type 0
  WasFullBy (Some peer) = WasFull peer.end
  WasFullBy None = ⊥

  -- the line to the peer at this place had no room at one moment
  abbrev pub WasFullAt : List (PeerEnd P) → ℕ → Type 0
  WasFullAt ends place = WasFullBy (slice_get ends place)

  abbrev pub IsCutOffBy : Option (PeerEnd P) → Type 0
  IsCutOffBy (Some peer) = IsCutOff peer
  IsCutOffBy None = ⊥

  -- the line to the peer at this place had no room at one moment, or its receiving end is gone
  abbrev pub IsCutOffAt : List (PeerEnd P) → ℕ → Type 0
  IsCutOffAt ends place = IsCutOffBy (slice_get ends place)

  -- the same peers, and the same records were sent to each
  abbrev pub SameRecords : List (PeerEnd P) → List (PeerEnd P) → Type 0
  SameRecords old new = map (λ (peer : PeerEnd P). records_in (sent_to peer)) new ≡ map (λ (peer : PeerEnd P). records_in (sent_to peer)) old

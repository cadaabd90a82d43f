-- What a node took of what its peers sent it.
use Rattle.std.specs.Prelude.{◌≡◌, ℕ, List, [], map, Option, Some, None, slice_get}
use Rattle.atomic_table.specs.Seated.{TableId}
use Rattle.atomic_table.specs.declared.badge.Badge.{Badge}
use Rattle.crossbeam_channel.specs.declared.flavors.array.Key.{Key}
use Rattle.lc_line.specs.Ends.{taken_from, line_from}
use Rattle.lc_node.specs.declared.message.Message.{Message}
use Rattle.lc_cluster.specs.declared.peer_inbox.PeerInbox.{PeerInbox}

module _ {P : Type 0} where
  -- what was taken from a peer, oldest first
  abbrev pub taken_of : PeerInbox P → List (Message P)
  taken_of inbox = taken_from inbox.end

  -- the line from which it was
  abbrev pub origin_of : PeerInbox P → TableId × Badge (Key (Message P))
  origin_of inbox = line_from inbox.end

  abbrev pub taken_in : Option (PeerInbox P) → List (Message P)
  taken_in (Some inbox) = taken_of inbox
  taken_in None = []

  abbrev pub kept_in : Option (PeerInbox P) → Option (Message P)
  kept_in (Some inbox) = inbox.kept
  kept_in None = None

  -- what was taken from the peer at this place; nothing where there is none
  abbrev pub taken_at : List (PeerInbox P) → ℕ → List (Message P)
  taken_at ends place = taken_in (slice_get ends place)

  -- the message of the peer at this place that is to be gone on with
  abbrev pub kept_at : List (PeerInbox P) → ℕ → Option (Message P)
  kept_at ends place = kept_in (slice_get ends place)

  -- the same peers, each on its line
  abbrev pub SameOrigins : List (PeerInbox P) → List (PeerInbox P) → Type 0
  SameOrigins old new = map origin_of new ≡ map origin_of old

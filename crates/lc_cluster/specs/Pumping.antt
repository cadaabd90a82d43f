-- Of a cluster: what a pump does with the messages of a peer.
use Rattle.std.specs.Prelude.{◌≡◌, ◌⊎◌, ℕ, List, [], ◌∷◌, ◌++◌, None, Some}
use Rattle.lc_cluster.specs.Receiving.{kept_at, taken_at}
use Rattle.lc_node.specs.declared.message.Message.{Message}
use Rattle.lc_cluster.specs.declared.peer_inbox.PeerInbox.{PeerInbox}
use Rattle.lc_node.specs.declared.pumped.Pumped.{Pumped}
use Rattle.lc_node.specs.declared.pumped.Pumped.TheVariants.{Applied, HeldBack, Ignored, Arrived, Waiting, Empty}

module _ {P : Type 0} where
  -- of the messages of a peer these were gone on with: all that were taken, but for the one that is kept
  abbrev pub IsGoneOn : List (PeerInbox P) → ℕ → List (Message P) → Type 0
  IsGoneOn ends place gone =
      ((kept_at ends place ≡ None) × (taken_at ends place ≡ gone))
      ⊎ ((message : Message P) × (kept_at ends place ≡ Some message) × (taken_at ends place ≡ gone ++ message ∷ []))

  -- one more was
  abbrev pub HasGoneOn : List (Message P) → List (PeerInbox P) → ℕ → Type 0
  HasGoneOn gone ends place = (message : Message P) × IsGoneOn ends place (gone ++ message ∷ [])

  -- one more was gone on with; none where there was none, and none where a token waits that cannot wait at its segment
  abbrev pub GoesOn : Pumped → List (Message P) → List (PeerInbox P) → ℕ → Type 0
  GoesOn Empty gone ends place = (kept_at ends place ≡ None) × (taken_at ends place ≡ gone)
  GoesOn Waiting gone ends place = IsGoneOn ends place gone ⊎ HasGoneOn gone ends place
  GoesOn (Applied number arrived) gone ends place = HasGoneOn gone ends place
  GoesOn HeldBack gone ends place = HasGoneOn gone ends place
  GoesOn Ignored gone ends place = HasGoneOn gone ends place
  GoesOn Arrived gone ends place = HasGoneOn gone ends place

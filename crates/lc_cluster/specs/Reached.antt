-- Of a cluster: what became of a message from a peer at the segments of a node, under the locks that it got.
use Rattle.std.specs.Prelude.{◌≡◌, ◌⊎◌, ℕ, List, ◌∷◌, [], ◌++◌, Option, Some, None, Result, Ok}
use Rattle.lc_segments.specs.Journey.{Journey}
use Rattle.lc_cluster.specs.Receiving.{kept_at, taken_at}
use Rattle.lc_node.specs.declared.message.Message.{Message}
use Rattle.lc_node.specs.declared.node.Node.{Node}
use Rattle.lc_segments.specs.declared.node_fault.NodeFault.{NodeFault}
use Rattle.lc_cluster.specs.declared.peer_inbox.PeerInbox.{PeerInbox}
use Rattle.lc_node.specs.declared.pumped.Pumped.{Pumped}
use Rattle.lc_node.specs.declared.pumped.Pumped.TheVariants.{Empty}
use Rattle.lc_node.specs.Reached.{AnswersMessage}

module _ {P : Type 0} where
  -- the message of the peer at this place that was to be gone on with: the kept one, and else the next that was taken
  abbrev pub IsNextAt : List (PeerInbox P) → ℕ → Message P → List (PeerInbox P) → Type 0
  IsNextAt old place message new =
      ((kept_at old place ≡ Some message) × (taken_at new place ≡ taken_at old place))
      ⊎ ((kept_at old place ≡ None) × (taken_at new place ≡ taken_at old place ++ message ∷ []))

  -- nothing was kept of this peer, and nothing was taken from it
  pub record IsIdleAt (old : List (PeerInbox P)) (place : ℕ) (new : List (PeerInbox P)) : Type 0 where
    pub before : kept_at old place ≡ None
    pub after : kept_at new place ≡ None
    pub taken : taken_at new place ≡ taken_at old place

module _ {D : Type 0} where
  -- a node went on with the next message of the peer at this place, which is kept where it comes back
  pub record GoesOnAt (node : Node D) (old : List (PeerInbox (Journey D))) (place : ℕ) (answer : Result Pumped NodeFault) (new : List (PeerInbox (Journey D))) : Type 0 where
    pub message : Message (Journey D)
    pub next : IsNextAt old place message new
    pub back : Option (Message (Journey D))
    pub answers : AnswersMessage node message answer back
    pub kept : kept_at new place ≡ back

  -- or none had come
  abbrev pub Pumps : Node D → List (PeerInbox (Journey D)) → ℕ → Result Pumped NodeFault → List (PeerInbox (Journey D)) → Type 0
  Pumps node old place answer new = ((answer ≡ Ok Empty) × IsIdleAt old place new) ⊎ GoesOnAt node old place answer new

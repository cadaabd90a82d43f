-- Of a cluster: a token goes to a peer, on a line behind the lock of a node's sending ends.
use Rattle.std.specs.Prelude.{◌≡◌, ◌≢◌, ℕ, List, [], ◌∷◌, ◌++◌, length, slice_get}
use Rattle.lc_cluster.specs.Spread.{SameLines}
use Rattle.lc_cluster.specs.Tokens.{IsCutOffAt, SameRecords, sent_at}
use Rattle.lc_node.specs.declared.message.Message.TheVariants.{Token}
use Rattle.lc_cluster.specs.declared.peer_end.PeerEnd.{PeerEnd}

module _ {P : Type 0} where
  -- but for the end at this place the ends are as they were, and no record was sent
  pub record SameElsewhere (place : ℕ) (old new : List (PeerEnd P)) : Type 0 where
    pub others : (other : ℕ) → other ≢ place → slice_get new other ≡ slice_get old other
    pub count : length new ≡ length old
    pub records : SameRecords old new
    pub lines : SameLines old new

  -- the token was sent to the peer at this place, after what it was sent, on the line that it had when the nodes were wired
  pub record SendsToken (wired : List (PeerEnd P)) (place : ℕ) (token : P) : Type 0 where
    pub old : List (PeerEnd P)
    pub own : SameLines wired old
    pub new : List (PeerEnd P)
    pub sent : sent_at new place ≡ sent_at old place ++ Token token ∷ []
    pub same : SameElsewhere place old new

  -- it was not: that line had no room at one moment, or its receiving end is gone
  pub record CutsOff (wired : List (PeerEnd P)) (place : ℕ) : Type 0 where
    pub old : List (PeerEnd P)
    pub own : SameLines wired old
    pub new : List (PeerEnd P)
    pub cut_off : IsCutOffAt new place
    pub none : sent_at new place ≡ sent_at old place
    pub same : SameElsewhere place old new

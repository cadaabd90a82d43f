-- What a committer's seat gains as it stages a record.
use Rattle.std.specs.Prelude.{◌≡◌, ℕ, ◌+◌, ◌<◌, List, ◌∷◌, length, slice_index, ◌/◌, true}
use Rattle.lc_record.specs.Record.{Chain}
use Rattle.lc_stage.specs.declared.stage_view.StageView.{StageView}
use Rattle.lc_stage.specs.Staging.{saw, reserved, with_newest, offset_of, seal_of, LieBelow, latest}
use Rattle.lc_segments.specs.declared.node_fault.NodeFault.{NodeFault}
use Rattle.lc_segments.specs.declared.node_fault.NodeFault.TheVariants.{Full, Sealed, Lost}
use Rattle.lc_stage.specs.declared.stage_view.Reservation.{Reservation}

-- the seat has one closed reservation more, of these words, which is its last by round and place
pub record Closes (words : List ℕ) (v w : StageView) : Type 0 where
  pub reservation : Reservation
  pub closed : reservation.closed ≡ true
  pub words_are : reservation.words ≡ words
  pub of_tail : (reservation.round ≡ w.seen / 65536) × (reservation.place ≡ offset_of w.seen)
  pub is : w ≡ record v { seen = w.seen; mine = reservation ∷ v.mine }
  pub last : latest w.mine ≡ reservation

-- the seat has only seen a tail
abbrev pub Sees : StageView → StageView → Type 0
Sees v w = w ≡ saw w.seen v

-- and has a reservation of n words more, from the tail that it saw, which lies after its earlier ones
abbrev pub Wins : ℕ → StageView → StageView → Type 0
Wins n v w = (w ≡ reserved w.seen n (saw w.seen v)) × LieBelow w.seen v.mine

-- each of so many tries found a tail above the one that was seen before it; the last found this one
pub record Loses (tries seen : ℕ) : Type 0 where
  pub earlier : List ℕ
  pub count : length earlier ≡ tries
  pub ascend : Chain (λ tail before. before < tail) (seen ∷ earlier)

-- why nothing was reserved: the words do not fit after the tail that was seen, that is sealed, or all tries found
-- another one
abbrev pub IsUnwon : ℕ → ℕ → ℕ → ℕ → NodeFault → Type 0
IsUnwon room n tries seen (Full tail need) = (tail ≡ offset_of seen) × (need ≡ n) × (seal_of seen ≡ 0) × (room < tail + n)
IsUnwon room n tries seen Sealed = seal_of seen ≡ 1
IsUnwon room n tries seen (Lost tail) = (tail ≡ seen) × Loses tries seen
IsUnwon room n tries seen _ = ⊥

-- the view with these words in its newest reservation
abbrev pub with_words : List ℕ → StageView → StageView
with_words us v = record v { mine = with_newest (λ r. record r { words = us }) v.mine }

-- of the newest reservation, the words after the header and before one place are filled
pub record IsFilling (v : StageView) (words : List ℕ) (next : ℕ) (w : StageView) : Type 0 where
  pub filled : List ℕ
  pub is : w ≡ with_words filled v
  pub long : length filled ≡ length words
  pub same : (j : ℕ) → 0 < j → j < next → slice_index filled j ≡ slice_index words j

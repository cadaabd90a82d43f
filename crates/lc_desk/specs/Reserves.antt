-- What a reservation, its end and the end of a transaction that set nothing make of a desk.
use Rattle.std.specs.Prelude.{◌≡◌, ℕ, true, Option, None, Some, slice_get}
use Rattle.lc_range.specs.RangeSet.{IsCanonical}
use Rattle.lc_record.specs.Transaction.{Transaction}
use Rattle.lc_tx.specs.declared.tx.Tx.{Tx}
use Rattle.lc_model.specs.History.{reserved}
use Rattle.lc_model.specs.State.{Setting, State, running_of, has_unclosed}
use Rattle.lc_model.specs.Machine.{appended, dropped, closed_by}
use Rattle.lc_desk.specs.Counts.{CountsAll}
use Rattle.lc_desk.specs.Desk.{FitsDesk}
use Rattle.lc_desk.specs.Here.{the_images}
use Rattle.lc_desk.specs.Seat.{Seat, Open, Reserved, reserved_of}
use Rattle.lc_desk.specs.declared.desk.Desk.{Desk}
use Rattle.lc_desk.specs.declared.here.Here.{Here}

-- where the number counts what the node reserved before, the desk fits the machine with the thread's transaction at the end
-- of the history
abbrev pub Reserves : ℕ → ℕ → Desk → Desk → Type 0
Reserves thread number old new =
    (m : Setting) (node : ℕ) (s : State) (t : Transaction) → FitsDesk m node old.here old.seats.items s
    → running_of node thread s ≡ Some t → number ≡ reserved node s.history
    → FitsDesk m node new.here new.seats.items (appended s t)

-- the record of this number is counted, and then its locks are free: the desk fits the machine with the thread's reservation
-- closed
pub record ClosesRecord (thread number : ℕ) (old new : Desk) : Type 0 where
  pub tx : Tx
  pub was : slice_get old.seats.items thread ≡ Some (Reserved tx number)
  pub canonical : IsCanonical tx.set
  pub counted : Here
  pub counts : CountsAll tx.set old.here.slots.items counted.slots.items
  pub spare : counted.spare ≡ old.here.spare
  pub beside : the_images.IsSameBeside counted new.here
  pub closes : (m : Setting) (node : ℕ) (s : State) → FitsDesk m node counted old.seats.items s → has_unclosed node thread s ≡ true
      → FitsDesk m node new.here new.seats.items (record s { history = closed_by node thread s.history })

-- a desk whose thread has no reservation stays
pub record ClosesNone (thread : ℕ) (old new : Desk) : Type 0 where
  pub none : (seat : Seat) → slice_get old.seats.items thread ≡ Some seat → reserved_of seat ≡ None
  pub here : new.here ≡ old.here
  pub seats : new.seats.items ≡ old.seats.items

-- by the number that is answered
abbrev pub ClosesSeat : ℕ → Desk → Option ℕ → Desk → Type 0
ClosesSeat thread old None new = ClosesNone thread old new
ClosesSeat thread old (Some number) new = ClosesRecord thread number old new

-- the desk fits the machine without the thread's open transaction
abbrev pub EndsEmpty : ℕ → Desk → Desk → Type 0
EndsEmpty thread old new =
    (m : Setting) (node : ℕ) (s : State) (tx : Tx) → FitsDesk m node old.here old.seats.items s
    → slice_get old.seats.items thread ≡ Some (Open tx)
    → FitsDesk m node new.here new.seats.items (dropped s node thread)

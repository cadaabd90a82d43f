-- The seats of a node's threads.
use Rattle.std.proofs.Common.{◌≡◌, ◌≢◌, ℕ, zero, suc, true, false, List, [], ◌∷◌, Option, Some, None, is_some, refl, sym, ap, ◌∙◌, inl, inr}
use Rattle.std.specs.Prelude.{slice_get, slice_set, replicate, ◌⊎◌}
use Rattle.std.proofs.lemmas.Bool.{cases_eq}
use Rattle.std.proofs.lemmas.Option.{same_Some as same_some}
use Rattle.lc_tx.specs.declared.tx.Tx.{Tx}
use Rattle.lc_desk.specs.Places.{get_set_same, get_set_other}
use Rattle.lc_desk.specs.Desk.{Sits}
use Rattle.lc_desk.specs.Seats.{AllRun}
use Rattle.lc_desk.specs.declared.here.Here.{Here}
use Rattle.lc_desk.specs.Seat.{Seat, Free, Open, Reserved, open_of, reserved_of, number_of, holder_of, is_open, placed}
use Rattle.lc_desk.specs.SeatCalls.{IsOpenOn, HoldsOn}

pub set_same : {A : Type 0} (xs : List A) (k : ℕ) (x : A) → slice_get xs k ≡ Some x → slice_set xs k x ≡ xs
set_same [] k x is = refl
set_same (z ∷ xs) zero x is = ap (λ y. y ∷ xs) (sym (same_some z x is))
set_same (z ∷ xs) (suc k) x is = ap (λ ys. z ∷ ys) (set_same xs k x is)

pub not_open : (seat : Seat) → is_open seat ≡ false → open_of seat ≡ None
not_open Free is = refl
not_open (Open tx) is = absurd cc
not_open (Reserved tx number) is = refl

pub not_placed : (number : ℕ) (seat : Seat) → open_of seat ≡ None → placed number seat ≡ seat
not_placed number Free none = refl
not_placed number (Open tx) none = absurd cc
not_placed number (Reserved tx other) none = refl

pub open_seat : (seat : Seat) (tx : Tx) → open_of seat ≡ Some tx → seat ≡ Open tx
open_seat Free tx is = absurd cc
open_seat (Open other) tx is = ap (λ x. Open x) (same_some other tx is)
open_seat (Reserved other number) tx is = absurd cc

pub same_open : (tx other : Tx) → Open tx ≡ Open other → tx ≡ other
same_open tx other same = cc

-- what holds the locks where a seat is open
pub open_holder : (seat : Seat) (tx : Tx) → is_open seat ≡ true → holder_of (Some seat) ≡ Some tx → open_of seat ≡ Some tx
open_holder Free tx is its = absurd cc
open_holder (Open other) tx is its = its
open_holder (Reserved other number) tx is its = absurd cc

pub not_reserved : (seat : Seat) → is_some (number_of seat) ≡ false → reserved_of seat ≡ None
not_reserved Free is = refl
not_reserved (Open tx) is = refl
not_reserved (Reserved tx number) is = absurd cc

pub none_reserved : (seat : Seat) → number_of seat ≡ None → reserved_of seat ≡ None
none_reserved seat is = not_reserved seat (ap is_some is)

pub reserved_seat : (seat : Seat) (number : ℕ) → number_of seat ≡ Some number → (tx : Tx) × (seat ≡ Reserved tx number)
reserved_seat Free number is = absurd cc
reserved_seat (Open tx) number is = absurd cc
reserved_seat (Reserved tx other) number is = (tx, ap (λ n. Reserved tx n) (same_some other number is))

-- the seat's transaction runs where all do
pub open_on : (here : Here) (seats : List Seat) (i : ℕ) (seat : Seat) → slice_get seats i ≡ Some seat → is_open seat ≡ true → AllRun here seats → IsOpenOn here seat
open_on here seats i Free at is runs = absurd cc
open_on here seats i (Open tx) at is runs = record { tx = tx; is = refl; runs = (runs i tx (ap holder_of at)).runs }
open_on here seats i (Reserved tx number) at is runs = absurd cc

pub open_holds : (here : Here) (seats : List Seat) (i : ℕ) (seat : Seat) → slice_get seats i ≡ Some seat → is_open seat ≡ true → AllRun here seats → HoldsOn here seat
open_holds here seats i Free at is runs = absurd cc
open_holds here seats i (Open tx) at is runs = record { tx = tx; its = refl; runs = (runs i tx (ap holder_of at)).runs }
open_holds here seats i (Reserved tx number) at is runs = absurd cc

pub reserved_holds : (here : Here) (seats : List Seat) (i : ℕ) (seat : Seat) → slice_get seats i ≡ Some seat → is_some (number_of seat) ≡ true → AllRun here seats → HoldsOn here seat
reserved_holds here seats i Free at is runs = absurd cc
reserved_holds here seats i (Open tx) at is runs = absurd cc
reserved_holds here seats i (Reserved tx number) at is runs = record { tx = tx; its = refl; runs = (runs i tx (ap holder_of at)).runs }

-- what is at a place after a write to one
pub at_place : (seats : List Seat) (i j : ℕ) (seat new other : Seat) → slice_get seats i ≡ Some seat → slice_get (slice_set seats i new) j ≡ Some other
    → ((j ≡ i) × (other ≡ new)) ⊎ ((j ≢ i) × (slice_get seats j ≡ Some other))
at_place seats i j seat new other at got = elim (cases_eq j i) [
  | inl same ↦ inl (same, same_some other new (sym got ∙ ap (slice_get (slice_set seats i new)) same ∙ get_set_same seats i seat new at))
  | inr differ ↦ inr (differ, sym (get_set_other seats i j new differ) ∙ got)
]

-- a thread that has a transaction has a seat
pub seat_of : (seats : List Seat) (j : ℕ) (tx : Tx) → Sits seats j tx → (seat : Seat) × (slice_get seats j ≡ Some seat) × (holder_of (Some seat) ≡ Some tx)
seat_of seats j tx has = elim (slice_get seats j) as (λ (o : Option Seat). slice_get seats j ≡ o → holder_of o ≡ Some tx → (seat : Seat) × (slice_get seats j ≡ Some seat) × (holder_of (Some seat) ≡ Some tx)) [
  | None ↦ λ e h. absurd cc
  | Some seat ↦ λ e h. (seat, e, h)
] refl has

-- where each thread's seat is free, no transaction runs
pub nobody_runs : (here : Here) (n : ℕ) → AllRun here (replicate n Free)
nobody_runs here n thread tx has = absurd (nobody n thread tx has)
  where
    nobody : (n thread : ℕ) (tx : Tx) → Sits (replicate n Free) thread tx → ⊥
    nobody zero thread tx has = let no : None ≡ Some tx = has in cc
    nobody (suc n) zero tx has = let no : None ≡ Some tx = has in cc
    nobody (suc n) (suc thread) tx has = nobody n thread tx has

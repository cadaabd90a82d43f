use Rattle.std.proofs.Common.{◌≡◌, ℕ, ◌<◌, Some}
use Rattle.std.specs.Prelude.{slice_get}
use Rattle.lc_desk.specs.Uncommitted.{SetsPage}
use Rattle.lc_desk.specs.Seat.{Seat}
use Rattle.lc_desk.proofs.desk.Desk.is_uncommitted.Given as goal

abbrev pub invariant-loop-seat : goal.invariant-loop-seat
invariant-loop-seat l = record {
  none : (thread : ℕ) (seat : Seat) → thread < l.seat-index → slice_get l.seat-items thread ≡ Some seat → SetsPage l.segment l.page seat → ⊥;
}

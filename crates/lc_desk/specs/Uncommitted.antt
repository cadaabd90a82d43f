-- Whether a page has positions of a transaction that is not over.
use Rattle.std.specs.Prelude.{◌≡◌, ℕ, ◌+◌, ◌*◌, ◌<◌, ◌≤◌, List, Some, slice_get}
use Rattle.lc_range.specs.RangeSet.{Has}
use Rattle.lc_tx.specs.declared.tx.Tx.{Tx}
use Rattle.lc_desk.specs.Seat.{Seat, holder_of}

-- what holds locks for the thread has set a position on the page
pub record SetsPage (segment page : ℕ) (seat : Seat) : Type 0 where
  pub tx : Tx
  pub holds : holder_of (Some seat) ≡ Some tx
  pub position : ℕ
  pub first : page * 256 ≤ position
  pub last : position < page * 256 + 256
  pub has : Has tx.set segment position

-- that of some thread has
abbrev pub HasSeatOn : ℕ → ℕ → List Seat → Type 0
HasSeatOn segment page seats = (thread : ℕ) × (seat : Seat) × (slice_get seats thread ≡ Some seat) × SetsPage segment page seat

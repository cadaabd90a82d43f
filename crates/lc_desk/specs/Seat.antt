-- What a thread is doing, as contracts see its seat.
use Rattle.std.specs.Prelude.{ℕ, Bool, true, false, List, [], Option, Some, None}
use Rattle.lc_range.specs.declared.range.Range.{Range}
use Rattle.lc_tx.specs.declared.tx.Tx.{Tx}
pub use Rattle.std.specs.Option.{option_copied as open_in}

-- nothing; an open transaction; or one that has its place in the log and is not closed, with which of the node's records since
-- the last recovery it is, from 0
pub data Seat : Type 0 where
  Free : Seat
  Open : Tx → Seat
  Reserved : Tx → ℕ → Seat

-- the open transaction
abbrev pub open_of : Seat → Option Tx
open_of Free = None
open_of (Open tx) = Some tx
open_of (Reserved tx number) = None

-- the transaction that is reserved
abbrev pub reserved_of : Seat → Option Tx
reserved_of Free = None
reserved_of (Open tx) = None
reserved_of (Reserved tx number) = Some tx

-- the seat whose open transaction, if it has one, is the record of this number
abbrev pub placed : ℕ → Seat → Seat
placed number Free = Free
placed number (Open tx) = Reserved tx number
placed number (Reserved tx other) = Reserved tx other

-- which record it is
abbrev pub number_of : Seat → Option ℕ
number_of Free = None
number_of (Open tx) = None
number_of (Reserved tx number) = Some number

-- the transaction that holds locks
abbrev pub holder_of : Option Seat → Option Tx
holder_of None = None
holder_of (Some Free) = None
holder_of (Some (Open tx)) = Some tx
holder_of (Some (Reserved tx number)) = Some tx

-- what it has set
abbrev pub set_of : Seat → List Range
set_of Free = []
set_of (Open tx) = tx.set
set_of (Reserved tx number) = tx.set

abbrev pub is_free : Seat → Bool
is_free Free = true
is_free (Open tx) = false
is_free (Reserved tx number) = false

abbrev pub is_open : Seat → Bool
is_open Free = false
is_open (Open tx) = true
is_open (Reserved tx number) = false

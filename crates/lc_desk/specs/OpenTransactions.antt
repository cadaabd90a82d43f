-- Of a desk: which transaction a thread has open, and how many threads there are.
use Rattle.std.specs.Prelude.{Option, None, Some}
use Rattle.lc_tx.specs.declared.tx.Tx.{Tx}
use Rattle.lc_desk.specs.Seat.{Seat, open_of}

-- the transaction that is open at a seat; none where there is no such seat
abbrev pub open_at : Option Seat → Option Tx
open_at None = None
open_at (Some seat) = open_of seat

-- How a seat keeps what its thread is doing.
use Rattle.lc_tx.specs.Tx.{IsIdle}
use Rattle.lc_tx.specs.declared.tx.Tx.{Tx}
use Rattle.lc_desk.specs.Seat.{Seat, Free, Open, Reserved}
use Rattle.lc_desk.specs.declared.doing.Doing.{Doing}
use Rattle.lc_desk.specs.declared.doing.Doing.TheVariants.{Nothing, Open as IsOpen, Reserved as IsReserved}

-- what contracts see of a seat that keeps this transaction
abbrev pub seat_of : Doing → Tx → Seat
seat_of Nothing tx = Free
seat_of IsOpen tx = Open tx
seat_of (IsReserved number) tx = Reserved tx number

-- where the thread does nothing, the transaction that its seat keeps is idle
abbrev pub Rests : Doing → Tx → Type 0
Rests Nothing tx = IsIdle tx
Rests IsOpen tx = Unit {0}
Rests (IsReserved number) tx = Unit {0}

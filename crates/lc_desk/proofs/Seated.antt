-- How a seat keeps its transaction.
use Rattle.std.proofs.Common.{◌≡◌, Some, refl, sym}
use Rattle.std.proofs.lemmas.Option.{same_Some as same_some}
use Rattle.lc_tx.specs.Tx.{IsIdle}
use Rattle.lc_tx.specs.declared.tx.Tx.{Tx}
use Rattle.lc_desk.specs.Doing.{seat_of, Rests}
use Rattle.lc_desk.specs.Seat.{Free, Open, holder_of, set_of}
use Rattle.lc_desk.specs.declared.doing.Doing.{Doing}
use Rattle.lc_desk.specs.declared.doing.Doing.TheVariants.{Nothing, Open as IsOpen, Reserved as IsReserved}

-- what is open is what it keeps
pub kept_open : (doing : Doing) (tx other : Tx) → seat_of doing tx ≡ Open other → other ≡ tx
kept_open Nothing tx other is = absurd cc
kept_open IsOpen tx other is = cc
kept_open (IsReserved number) tx other is = absurd cc

-- and so is what holds the locks
pub kept_holder : (doing : Doing) (tx other : Tx) → holder_of (Some (seat_of doing tx)) ≡ Some other → other ≡ tx
kept_holder Nothing tx other its = absurd cc
kept_holder IsOpen tx other its = sym (same_some tx other its)
kept_holder (IsReserved number) tx other its = sym (same_some tx other its)

-- where one is open, any other that is kept instead would be
pub open_with : (doing : Doing) (tx other next : Tx) → seat_of doing tx ≡ Open other → (seat_of doing next ≡ Open next) × Rests doing next
open_with Nothing tx other next is = absurd cc
open_with IsOpen tx other next is = (refl, tt)
open_with (IsReserved number) tx other next is = absurd cc

-- where there is none, what it keeps is idle, and any other that is kept instead leaves it free
pub idle_free : (doing : Doing) (tx : Tx) → seat_of doing tx ≡ Free → Rests doing tx → IsIdle tx
idle_free Nothing tx is rests = rests
idle_free IsOpen tx is rests = absurd cc
idle_free (IsReserved number) tx is rests = absurd cc

pub rests_idle : (doing : Doing) (tx : Tx) → IsIdle tx → Rests doing tx
rests_idle Nothing tx idle = idle
rests_idle IsOpen tx idle = tt
rests_idle (IsReserved number) tx idle = tt

pub set_kept : (doing : Doing) (tx : Tx) → Rests doing tx → tx.set ≡ set_of (seat_of doing tx)
set_kept Nothing tx rests = rests.nothing_set
set_kept IsOpen tx rests = refl
set_kept (IsReserved number) tx rests = refl

-- What becomes of a transaction that is to get its place in the log.
use Rattle.std.specs.Prelude.{◌≡◌, ℕ, ◌+◌, ◌<◌, ◌≤◌, false, nat_lt, List, length, slice_get, vec_capacity, Some}
use Rattle.std.specs.Option.{ForSome}
use Rattle.lc_record.specs.Marks.{is_empty}
use Rattle.lc_record.specs.Record.{record_len, IsRecord}
use Rattle.lc_record.specs.Transaction.{Transaction}
use Rattle.lc_model.specs.Machine.{Row, dropped}
use Rattle.lc_model.specs.Sound.{Sound}
use Rattle.lc_model.specs.State.{Setting, State, running_of}
use Rattle.lc_model.specs.declared.event.Event.TheVariants.{Reserve}
use Rattle.lc_model.specs.declared.reply.Reply.TheVariants.{Reserved, Ended, Refused}
use Rattle.lc_tx.specs.Images.{IsHere}
use Rattle.lc_tx.specs.Prepared.{final_record}
use Rattle.lc_tx.specs.declared.tx.Tx.{Tx}
use Rattle.lc_desk.specs.Desk.{FitsDesk}
use Rattle.lc_desk.specs.FollowsDesk.{StillFits}
use Rattle.lc_desk.specs.Here.{the_images}
use Rattle.lc_settled.specs.Numbers.{Numbers, token_number, next_record, log_end}
use Rattle.lc_desk.specs.Seat.{Open}
use Rattle.lc_settled.specs.Settled.{reserve_answer, reserve_open}
use Rattle.lc_desk.specs.declared.desk.Desk.{Desk}
use Rattle.lc_desk.specs.declared.ending.Ending.{Ending}
use Rattle.lc_desk.specs.declared.ending.Ending.TheVariants.{Refused as IsRefused, Empty, Record}
use Rattle.lc_desk.specs.declared.here.Here.{Here}
use Rattle.lc_desk.specs.declared.log_end.LogEnd.{LogEnd}

-- the tokens that are here have the numbers of the closed records
abbrev pub FitsNumbers : Here → State → Numbers → Type 0
FitsNumbers here s x = (segment : ℕ) → IsHere the_images here segment → the_images.number_of here segment ≡ Some (token_number s x segment)

-- the log of this node ends so
pub record EndsAt (m : Setting) (node : ℕ) (s : State) (x : Numbers) (log : LogEnd) : Type 0 where
  pub end : log.end ≡ log_end m s x node
  pub room : log.room ≡ m.geometry.words
  pub sealed : log.sealed ≡ nat_lt 0 (x.reset node)

-- the record of the thread's transaction, with its place and its words
pub record IsPrepared (m : Setting) (node thread : ℕ) (s : State) (x : Numbers) (log : LogEnd) (words : List ℕ) : Type 0 where
  pub transaction : Transaction
  pub running : running_of node thread s ≡ Some transaction
  pub set : is_empty transaction.marks ≡ false
  pub record_is : IsRecord (next_record m s x transaction) words
  pub answer : reserve_answer m s x transaction ≡ Reserved log.end (length words)

-- a refusal is the one that is settled and that the machine allows; one that set nothing has ended; else the record is ready
abbrev pub Ends : Setting → ℕ → ℕ → State → Numbers → LogEnd → Ending → Desk → Type 0
Ends m node thread s x log (IsRefused refusal) new =
    Row m s (Reserve node thread) (Refused refusal) s × ForSome (reserve_open m s x (running_of node thread s)) (λ answer. Refused refusal ≡ answer)
    × FitsDesk m node new.here new.seats.items s
Ends m node thread s x log Empty new =
    Row m s (Reserve node thread) Ended (dropped s node thread) × FitsDesk m node new.here new.seats.items (dropped s node thread)
Ends m node thread s x log (Record words) new = IsPrepared m node thread s x log words × FitsDesk m node new.here new.seats.items s

-- but where it has ended, whatever the desk fitted it still fits
abbrev pub Keeps : Desk → Ending → Desk → Type 0
Keeps old (IsRefused refusal) new = StillFits old new
Keeps old Empty new = Unit {0}
Keeps old (Record words) new = StillFits old new

-- a record that is ready has room
abbrev pub HasRoom : LogEnd → Ending → Type 0
HasRoom log (IsRefused refusal) = Unit {0}
HasRoom log Empty = Unit {0}
HasRoom log (Record words) = log.end + length words ≤ log.room

-- and its log is not sealed
abbrev pub IsUnsealed : LogEnd → Ending → Type 0
IsUnsealed log (IsRefused refusal) = Unit {0}
IsUnsealed log Empty = Unit {0}
IsUnsealed log (Record words) = log.sealed ≡ false

abbrev pub Prepares : ℕ → ℕ → LogEnd → Desk → Ending → Desk → Type 0
Prepares node thread log old ending new =
    (m : Setting) (s : State) (x : Numbers) → Sound m.geometry s → FitsDesk m node old.here old.seats.items s → FitsNumbers old.here s x
    → EndsAt m node s x log → Ends m node thread s x log ending new

-- the thread's transaction gets its place in the log
pub record GetsPlace (m : Setting) (node thread : ℕ) (s : State) (x : Numbers) (place : ℕ) : Type 0 where
  pub transaction : Transaction
  pub running : running_of node thread s ≡ Some transaction
  pub set : is_empty transaction.marks ≡ false
  pub words : ℕ
  pub answer : reserve_answer m s x transaction ≡ Reserved place words

-- it does so in each state that this fits
abbrev pub WantsRecord : ℕ → ℕ → LogEnd → Desk → Type 0
WantsRecord node thread log old =
    (m : Setting) (s : State) (x : Numbers) → Sound m.geometry s → FitsDesk m node old.here old.seats.items s → FitsNumbers old.here s x
    → EndsAt m node s x log → GetsPlace m node thread s x log.end

-- the desk's memory has no room for the record of the thread's open transaction
abbrev pub IsShort : ℕ → ℕ → Desk → Type 0
IsShort node thread old =
    (tx : Tx) → slice_get old.seats.items thread ≡ Some (Open tx) → vec_capacity old.memory < record_len (final_record the_images old.here tx node)

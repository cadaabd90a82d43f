-- What the calls of a seat need, what they make of it and of the images, and what they answer.
use Rattle.std.specs.Prelude.{◌≡◌, ◌↔◌, ℕ, ◌+◌, ◌-◌, ◌^◌, ◌<◌, ◌≤◌, min, IsTrue, List, length, Some, Result, Err, OnOk, OnErr, IfErr}
use Rattle.lc_range.specs.RangeSet.{MissesSome, NeedsRunsAbove}
use Rattle.lc_tx.specs.Fault.{is_of_set_range}
use Rattle.lc_tx.specs.Images.{AreReleased, AreRestored, IsSame, bytes_of}
use Rattle.lc_tx.specs.Tx.{Begins, Holds, Locked, Reads, RunsOn, SetsRange}
use Rattle.lc_tx.specs.declared.tx.Tx.{Tx}
use Rattle.lc_tx.specs.declared.tx_fault.TxFault.{TxFault}
use Rattle.lc_tx.specs.declared.tx_fault.TxFault.TheVariants.{OutOfSegment as IsOutside, NotLocked as IsNotLocked, NoMemory, EmptyRange as IsEmpty, TooManyRanges as AreTooMany, ReadOnly as IsReadOnly}
use Rattle.lc_desk.specs.Here.{the_images}
use Rattle.lc_desk.specs.Seat.{Seat, Open, holder_of}
use Rattle.lc_desk.specs.declared.here.Here.{Here}

-- its transaction is open, on these images
pub record IsOpenOn (here : Here) (seat : Seat) : Type 0 where
  pub tx : Tx
  pub is : seat ≡ Open tx
  pub runs : RunsOn the_images here tx

-- its transaction holds its locks, on these images
pub record HoldsOn (here : Here) (seat : Seat) : Type 0 where
  pub tx : Tx
  pub its : holder_of (Some seat) ≡ Some tx
  pub runs : RunsOn the_images here tx

-- its transaction has begun
pub record BeginsIn (thread : ℕ) (segments reading : List ℕ) (old new : Here) (seat : Seat) : Type 0 where
  pub tx : Tx
  pub is : seat ≡ Open tx
  pub begins : Begins the_images thread segments reading old new tx
  pub runs : RunsOn the_images new tx

-- why a transaction does not set a range
pub record RangeAnswers (bytes : List ℕ) (tx : Tx) (n offset len : ℕ) (r : Result (Unit {0}) TxFault) : Type 0 where
  pub not_locked : (r ≡ Err IsNotLocked) ↔ (Holds tx n → ⊥)
  pub read_only : (x : ℕ) → (r ≡ Err (IsReadOnly x)) ↔ (Reads tx n × (x ≡ n))
  pub empty : (r ≡ Err IsEmpty) ↔ (Locked tx n × (len ≡ 0))
  pub outside : (r ≡ Err IsOutside) ↔ (Locked tx n × (0 < len) × (min (length bytes) (2 ^ 32 - 1) < offset + len))
  pub too_many : (r ≡ Err AreTooMany) ↔ (Locked tx n × (0 < len) × (offset + len ≤ min (length bytes) (2 ^ 32 - 1)) × NeedsRunsAbove 64 tx.set n offset len)

-- its open transaction sets the range, or is as before
pub record SetsIn (segment offset len : ℕ) (old : Here) (seat : Seat) (r : Result (Unit {0}) TxFault) (new : Here) (next : Seat) : Type 0 where
  pub tx : Tx
  pub was : seat ≡ Open tx
  pub after : Tx
  pub is : next ≡ Open after
  pub sets : OnOk r (SetsRange the_images old tx segment offset len after)
  pub err : OnErr r (after ≡ tx)
  pub images : IsSame the_images old new
  pub runs : RunsOn the_images new after
  pub answers : RangeAnswers (bytes_of the_images old segment) tx segment offset len r
  -- memory is wanted only where none of these is the case, and some position was not set
  pub no_memory : r ≡ Err NoMemory → Locked tx segment × (0 < len) × (offset + len ≤ min (length (bytes_of the_images old segment)) (2 ^ 32 - 1))
      × (NeedsRunsAbove 64 tx.set segment offset len → ⊥) × MissesSome tx.set segment offset len
  pub faults : IfErr r (λ fault. IsTrue (is_of_set_range fault))

-- its open transaction is dropped
pub record AbortsIn (old : Here) (seat : Seat) (new : Here) : Type 0 where
  pub tx : Tx
  pub was : seat ≡ Open tx
  pub restored : AreRestored the_images tx.undo tx.thread tx.locked.items tx.reading.items old new

-- the locks that its transaction held are free
pub record ReleasesIn (old : Here) (seat : Seat) (new : Here) : Type 0 where
  pub tx : Tx
  pub its : holder_of (Some seat) ≡ Some tx
  pub released : AreReleased the_images tx.thread tx.locked.items tx.reading.items old new

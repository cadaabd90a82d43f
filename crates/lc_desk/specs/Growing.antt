-- What a desk takes more memory for.
use Rattle.std.specs.Prelude.{◌≡◌, ℕ, ◌+◌, ◌-◌, ◌^◌, ◌<◌, ◌≤◌, length, min, Some, slice_get}
use Rattle.lc_range.specs.RangeSet.{MissesSome, NeedsRunsAbove}
use Rattle.lc_tx.specs.Images.{bytes_of}
use Rattle.lc_tx.specs.Tx.{Holds, Locked}
use Rattle.lc_tx.specs.declared.tx.Tx.{Tx}
use Rattle.lc_desk.specs.Here.{the_images}
use Rattle.lc_desk.specs.declared.desk.Desk.{Desk}
use Rattle.lc_desk.specs.Seat.{Open}

-- the thread's open transaction may set these positions, of which some is not set yet
pub record MaySetMore (thread segment offset len : ℕ) (old : Desk) : Type 0 where
  pub tx : Tx
  pub sits : slice_get old.seats.items thread ≡ Some (Open tx)
  pub locked : Locked tx segment
  pub some : 0 < len
  pub inside : offset + len ≤ min (length (bytes_of the_images old.here segment)) (2 ^ 32 - 1)
  pub few : NeedsRunsAbove 64 tx.set segment offset len → ⊥
  pub more : MissesSome tx.set segment offset len

-- the thread's open transaction may read these bytes, of which there is one at least
pub record MayReadSome (thread segment offset len : ℕ) (old : Desk) : Type 0 where
  pub tx : Tx
  pub sits : slice_get old.seats.items thread ≡ Some (Open tx)
  pub holds : Holds tx segment
  pub some : 0 < len
  pub inside : offset + len ≤ length (bytes_of the_images old.here segment)

-- The transactions of a node on its images.
use Rattle.std.specs.Prelude.{◌≡◌, ℕ, ◌≤◌, List, length, Some, slice_get}
use Rattle.lc_tx.specs.declared.tx.Tx.{Tx}
use Rattle.lc_tx.specs.Images.{bytes_of}
use Rattle.lc_tx.specs.Tx.{RunsOn}
use Rattle.lc_desk.specs.declared.here.Here.{Here}
use Rattle.lc_desk.specs.Seat.{Seat, holder_of}
use Rattle.lc_desk.specs.Here.{the_images}

-- a thread's own transaction, on these images
pub record Runs (here : Here) (thread : ℕ) (tx : Tx) : Type 0 where
  pub own : tx.thread ≡ thread
  pub runs : RunsOn the_images here tx

abbrev pub AllRun : Here → List Seat → Type 0
AllRun here seats = (thread : ℕ) (tx : Tx) → holder_of (slice_get seats thread) ≡ Some tx → Runs here thread tx

-- no segment has more bytes than a record can name
abbrev pub AreShort : Here → Type 0
AreShort here = (segment : ℕ) → length (bytes_of the_images here segment) ≤ 262144

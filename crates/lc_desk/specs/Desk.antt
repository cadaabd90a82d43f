-- The images of a node and its open transactions, against those of the machine.
use Rattle.std.specs.Prelude.{◌≡◌, ◌≤◌, ◌↔◌, IsTrue, ℕ, true, false, List, map, length, replicate, find, None, Some, slice_get}
use Rattle.lc_tx.specs.Tx.{Holds, Locked, Reads}
use Rattle.lc_desk.specs.Seat.{Seat, Free, Open, Reserved, holder_of}
use Rattle.lc_record.specs.Content.{Content, segment_of}
use Rattle.lc_range.specs.RangeSet.{Has}
use Rattle.lc_record.specs.Transaction.{Transaction, all_set}
use Rattle.lc_record.specs.Geometry.{segment_len}
use Rattle.lc_model.specs.History.{value, entries_of}
use Rattle.lc_model.specs.State.{Setting, State, At, running_of, has_unclosed, is_by}
use Rattle.lc_model.specs.Sound.{unclosed}
use Rattle.lc_model.specs.Refusals.{is_at}
use Rattle.lc_tx.specs.Holders.{reads, writer_of}
use Rattle.lc_tx.specs.Images.{IsHere, bytes_of, holders_of}
use Rattle.lc_tx.specs.StandsFor.{StandsFor}
use Rattle.lc_tx.specs.declared.tx.Tx.{Tx}
use Rattle.lc_desk.specs.declared.here.Here.{Here}
use Rattle.lc_desk.specs.Here.{the_images}

-- an open transaction of the machine, and what stands for it
pub record IsOpen (here : Here) (node thread : ℕ) (tx : Tx) (content : Content) (s : State) : Type 0 where
  pub transaction : Transaction
  pub running : running_of node thread s ≡ Some transaction
  pub unclosed : has_unclosed node thread s ≡ false
  pub stands : StandsFor the_images here tx content transaction

-- a reservation that is not closed, and what holds its locks; its writes are among the content
pub record IsReserved (here : Here) (node thread : ℕ) (tx : Tx) (number : ℕ) (content : Content) (s : State) : Type 0 where
  pub transaction : Transaction
  pub running : running_of node thread s ≡ None
  pub unclosed_is : has_unclosed node thread s ≡ true
  pub found : find (is_by node thread) (unclosed s.history) ≡ Some transaction
  pub locked_are : transaction.locked ≡ tx.locked.items
  pub reading_are : transaction.reading ≡ tx.reading.items
  pub set_is : (segment k : ℕ) → Has tx.set segment k ↔ IsTrue (all_set k 1 (segment_of segment transaction.marks))
  -- which of the node's it is
  pub numbered : slice_get (entries_of node s.history) number ≡ Some (record { transaction = transaction; closed = false })
  pub shown : (segment : ℕ) → Holds tx segment → bytes_of the_images here segment ≡ segment_of segment content

-- what a thread is doing
abbrev pub FitsSeat : Here → ℕ → ℕ → Content → State → Seat → Type 0
FitsSeat here node thread content s Free = (running_of node thread s ≡ None) × (has_unclosed node thread s ≡ false)
FitsSeat here node thread content s (Open tx) = IsOpen here node thread tx content s
FitsSeat here node thread content s (Reserved tx number) = IsReserved here node thread tx number content s

-- the thread has this transaction
abbrev pub Sits : List Seat → ℕ → Tx → Type 0
Sits seats thread tx = holder_of (slice_get seats thread) ≡ Some tx

pub record FitsDesk (m : Setting) (node : ℕ) (here : Here) (seats : List Seat) (s : State) : Type 0 where
  pub all_seats : length seats ≡ m.geometry.threads
  pub shape : map length (value m.start s.earlier s.history) ≡ replicate m.geometry.segments (segment_len m.geometry)
  pub threads : (thread : ℕ) (seat : Seat) → slice_get seats thread ≡ Some seat → FitsSeat here node thread (value m.start s.earlier s.history) s seat
  -- a segment that no transaction writes shows the content
  pub shown : (segment : ℕ) → IsHere the_images here segment → writer_of (holders_of the_images here segment) ≡ None
      → bytes_of the_images here segment ≡ segment_of segment (value m.start s.earlier s.history)
  pub sizes : (segment : ℕ) → IsHere the_images here segment → length (bytes_of the_images here segment) ≡ segment_len m.geometry
  -- who holds a segment is a thread that sits there
  pub writer : (segment thread : ℕ) → IsHere the_images here segment → writer_of (holders_of the_images here segment) ≡ Some thread
      → (tx : Tx) × Sits seats thread tx × Locked tx segment
  pub readers : (segment thread : ℕ) → IsHere the_images here segment → reads (holders_of the_images here segment) thread ≡ true
      → (tx : Tx) × Sits seats thread tx × Reads tx segment
  -- the tokens that are here, are here
  pub places : (segment : ℕ) → IsHere the_images here segment → s.place segment ≡ At node
  pub elsewhere : (segment : ℕ) → 1 ≤ segment → segment ≤ m.geometry.segments → the_images.number_of here segment ≡ None
      → is_at node (s.place segment) ≡ false

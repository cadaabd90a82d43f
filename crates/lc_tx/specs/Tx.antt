-- A transaction on the images at a node.
use Rattle.std.specs.Prelude.{◌≡◌, ◌⊎◌, ℕ, ◌+◌, ◌<◌, ◌≤◌, not, ◌||◌, List, [], filter, length, None, IsSome, IsTrue, slice_index}
use Rattle.lc_record.specs.Record.{Chain}
use Rattle.lc_record.specs.Transaction.{is_member}
use Rattle.lc_range.specs.RangeSet.{Has, AddsPositions, NeedsRunsAbove}
use Rattle.lc_range.specs.Undo.{KeepsOld, LiesBelow, NeedsBytesAbove, NeedsCopiesAbove, kept}
use Rattle.lc_tx.specs.declared.holders.Holders.TheVariants.{Writer}
use Rattle.lc_tx.specs.declared.images.Images.{Ghosts}
use Rattle.lc_tx.specs.declared.tx.Tx.{Tx}
use Rattle.lc_tx.specs.Holders.{reads}
use Rattle.lc_tx.specs.Images.{IsHere, bytes_of, holders_of, AreLocked}

-- the same numbers, ascending, each once
pub record IsSetOf (numbers set : List ℕ) : Type 0 where
  pub ascends : Chain (λ a b. a < b) set
  pub same : (n : ℕ) → is_member n set ≡ is_member n numbers

-- those numbers that are none of these
abbrev pub none_of : List ℕ → List ℕ → List ℕ
none_of these those = filter (λ n. not (is_member n these)) those

-- it locked the segment for writing
abbrev pub Locked : Tx → ℕ → Type 0
Locked tx segment = IsTrue (is_member segment tx.locked.items)

-- it locked it for reading
abbrev pub Reads : Tx → ℕ → Type 0
Reads tx segment = IsTrue (is_member segment tx.reading.items)

-- it locked it for writing or for reading
abbrev pub Holds : Tx → ℕ → Type 0
Holds tx segment = IsTrue (is_member segment tx.locked.items || is_member segment tx.reading.items)

-- it holds no lock, has set nothing and keeps nothing
pub record IsIdle (tx : Tx) : Type 0 where
  pub none_locked : tx.locked.items ≡ []
  pub none_read : tx.reading.items ≡ []
  pub nothing_set : tx.set ≡ []
  pub nothing_kept : tx.undo ≡ []

-- it keeps bytes of set positions alone
abbrev pub KeepsSetAlone : Tx → Type 0
KeepsSetAlone tx = (segment k : ℕ) → (Has tx.set segment k → ⊥) → kept tx.undo segment k ≡ None

-- each of len positions from offset on is set
abbrev pub AreSet : Tx → ℕ → ℕ → ℕ → Type 0
AreSet tx segment offset len = (k : ℕ) → offset ≤ k → k < offset + len → Has tx.set segment k

-- with len positions more from offset on, more than 8 runs would be set, or more than 8 copies of old bytes kept, or more than
-- 64 bytes: those take memory
abbrev pub RangeTakesMemory : Tx → ℕ → ℕ → ℕ → Type 0
RangeTakesMemory tx segment offset len =
    NeedsRunsAbove 8 tx.set segment offset len ⊎ (NeedsCopiesAbove 8 tx.undo tx.set segment offset len ⊎ NeedsBytesAbove 64 tx.undo tx.set segment offset len)

module _ {I : Type 0} (m : Ghosts I) where
  -- these are the images that it runs on: what it locked for writing is here, it is the writer, and what it set and kept
  -- lies inside; it keeps bytes of each set position, and of no other; what it locked for reading is here, and it is among
  -- the readers
  pub record RunsOn (images : I) (tx : Tx) : Type 0 where
    pub here : (segment : ℕ) → Locked tx segment → IsHere m images segment
    pub set_locked : (segment k : ℕ) → Has tx.set segment k → Locked tx segment
    pub set_inside : (segment k : ℕ) → Has tx.set segment k → k < length (bytes_of m images segment)
    pub kept_inside : (segment : ℕ) → Locked tx segment → LiesBelow tx.undo segment (length (bytes_of m images segment))
    pub holds : (segment : ℕ) → Locked tx segment → holders_of m images segment ≡ Writer tx.thread
    pub set_kept : (segment k : ℕ) → Has tx.set segment k → IsSome (kept tx.undo segment k)
    pub set_alone : KeepsSetAlone tx
    pub read_here : (segment : ℕ) → Reads tx segment → IsHere m images segment
    pub reads : (segment : ℕ) → Reads tx segment → IsTrue (reads (holders_of m images segment) tx.thread)

  -- it has the locks of these segments, reads those that are not among them, and nothing is set
  pub record Begins (thread : ℕ) (segments reading : List ℕ) (old new : I) (tx : Tx) : Type 0 where
    pub thread_is : tx.thread ≡ thread
    pub locked_are : IsSetOf segments tx.locked.items
    pub reading_are : IsSetOf (none_of segments reading) tx.reading.items
    pub nothing_set : tx.set ≡ []
    pub nothing_kept : tx.undo ≡ []
    pub held : AreLocked m thread tx.locked.items tx.reading.items old new

  -- len positions more are set, and their old bytes are kept
  pub record SetsRange (images : I) (old : Tx) (segment offset len : ℕ) (new : Tx) : Type 0 where
    pub same_thread : new.thread ≡ old.thread
    pub same_locks : new.locked ≡ old.locked
    pub same_reading : new.reading ≡ old.reading
    pub adds : AddsPositions old.set segment offset len new.set
    pub keeps : KeepsOld old.undo old.set segment offset len (slice_index (bytes_of m images segment)) new.undo

  -- what it locked is still here: what it writes with the image that it had, and what it reads with the bytes that it
  -- had, and with it among the readers; what else changed is left open
  pub record KeepsLocked (old new : I) (tx : Tx) : Type 0 where
    pub here : (segment : ℕ) → Locked tx segment → IsHere m new segment
    pub same_image : (segment : ℕ) → Locked tx segment → m.image_of new segment ≡ m.image_of old segment
    pub read_here : (segment : ℕ) → Reads tx segment → IsHere m new segment
    pub same_bytes : (segment : ℕ) → Reads tx segment → bytes_of m new segment ≡ bytes_of m old segment
    pub still_reads : (segment : ℕ) → Reads tx segment → IsTrue (reads (holders_of m new segment) tx.thread)

-- When what is kept of a transaction, and the images that it runs on, stand for a transaction of the model.
use Rattle.std.specs.Prelude.{◌≡◌, ◌↔◌, ℕ, ◌≤◌, false, List, [], map, length, replicate, IsSome, Some, IsTrue, unwrap_or, slice_index}
use Rattle.lc_record.specs.Content.{Content, segment_of}
use Rattle.lc_record.specs.Transaction.{Transaction, Marks, IsWellFormed, is_member, all_set, effect}
use Rattle.lc_range.specs.RangeSet.{Has}
use Rattle.lc_range.specs.Undo.{kept}
use Rattle.lc_tx.specs.declared.images.Images.{Ghosts}
use Rattle.lc_tx.specs.declared.tx.Tx.{Tx}
use Rattle.lc_tx.specs.Images.{bytes_of}
use Rattle.lc_tx.specs.Tx.{Locked, Holds}

-- of each position of the content, that it is not set
abbrev pub unmarked : Content → Marks
unmarked content = map (λ bytes. replicate (length bytes) false) content

-- the transaction that has just begun, on this content
abbrev pub begun_on : Content → ℕ → Tx → Transaction
begun_on content node tx = record { node = node; thread = tx.thread; locked = tx.locked.items; reading = tx.reading.items; marks = unmarked content; writes = [] }

module _ {I : Type 0} (m : Ghosts I) where
  -- the content is that without the transaction
  pub record StandsFor (images : I) (tx : Tx) (content : Content) (t : Transaction) : Type 0 where
    pub thread_is : t.thread ≡ tx.thread
    pub locked_are : t.locked ≡ tx.locked.items
    pub reading_are : t.reading ≡ tx.reading.items
    pub well_formed : IsWellFormed t
    pub shape : map length t.marks ≡ map length content
    pub inside : (segment : ℕ) → Holds tx segment → (1 ≤ segment) × (segment ≤ length content)
    pub set_is : (segment k : ℕ) → Has tx.set segment k ↔ IsTrue (all_set k 1 (segment_of segment t.marks))
    -- the images show its writes
    pub shown : (segment : ℕ) → Holds tx segment → bytes_of m images segment ≡ segment_of segment (effect t content)
    -- what is kept tells the content
    pub all_kept : (segment k : ℕ) → Has tx.set segment k → IsSome (kept tx.undo segment k)
    pub kept_is : (segment k : ℕ) → Locked tx segment
        → unwrap_or (kept tx.undo segment k) (slice_index (bytes_of m images segment) k) ≡ slice_index (segment_of segment content) k

  -- the images of these segments show a content
  pub record Show (images : I) (segments : List ℕ) (content : Content) : Type 0 where
    pub inside : (segment : ℕ) → IsTrue (is_member segment segments) → (1 ≤ segment) × (segment ≤ length content)
    pub shown : (segment : ℕ) → IsTrue (is_member segment segments) → bytes_of m images segment ≡ segment_of segment content

  -- the numbers of the tokens of what it locked
  abbrev pub AreNumbers : I → Tx → (ℕ → ℕ) → Type 0
  AreNumbers images tx numbers = (segment : ℕ) → Locked tx segment → m.number_of images segment ≡ Some (numbers segment)

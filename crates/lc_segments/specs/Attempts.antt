-- Of a segment: what the work of a transaction leaves, until its end.
use Rattle.std.specs.Prelude.{◌≡◌, ℕ, false, List, length, unwrap_or, slice_index, IsTrue}
use Rattle.lc_record.specs.Transaction.{is_member}
use Rattle.lc_range.specs.RangeSet.{Has}
use Rattle.lc_range.specs.Undo.{kept}
use Rattle.lc_tx.specs.declared.holders.Holders.TheVariants.{Free}
use Rattle.lc_tx.specs.declared.images.Images.{Ghosts}
use Rattle.lc_tx.specs.declared.tx.Tx.{Tx}
use Rattle.lc_tx.specs.Images.{IsHere, IsSameBut, bytes_of, holders_of}

module _ {I : Type 0} (m : Ghosts I) where
  -- a transaction locked these segments, which were free, and has changed nothing but what it set in them
  pub record Leaves (segments : List ℕ) (old new : I) (tx : Tx) : Type 0 where
    pub locked : (s : ℕ) → is_member s tx.locked.items ≡ is_member s segments
    pub reads_none : (s : ℕ) → is_member s tx.reading.items ≡ false
    pub was_free : (s : ℕ) → IsTrue (is_member s segments) → holders_of m old s ≡ Free
    pub here : (s : ℕ) → IsTrue (is_member s segments) → IsHere m old s
    pub same : IsSameBut m segments old new
    pub same_length : (s : ℕ) → IsTrue (is_member s segments) → length (bytes_of m new s) ≡ length (bytes_of m old s)
    pub unset : (s k : ℕ) → IsTrue (is_member s segments) → (Has tx.set s k → ⊥) → slice_index (bytes_of m new s) k ≡ slice_index (bytes_of m old s) k
    pub old_bytes : (s k : ℕ) → IsTrue (is_member s segments) → unwrap_or (kept tx.undo s k) (slice_index (bytes_of m new s) k) ≡ slice_index (bytes_of m old s) k

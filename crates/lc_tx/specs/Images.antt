-- The images at a node, and how they change.
use Rattle.std.specs.Prelude.{◌≡◌, ℕ, ◌<◌, false, ◌||◌, List, [], ◌∷◌, ◌++◌, length, None, IsSome, IsTrue, unwrap_or, slice_index}
use Rattle.lc_record.specs.Content.{put}
use Rattle.lc_record.specs.Transaction.{is_member}
use Rattle.lc_range.specs.Undo.{OldBytes, kept}
use Rattle.lc_tx.specs.Holders.{Joins, Leaves, writer_of}
use Rattle.lc_tx.specs.declared.holders.Holders.{Holders}
use Rattle.lc_tx.specs.declared.holders.Holders.TheVariants.{Free, Writer}
use Rattle.lc_tx.specs.declared.images.Images.{Ghosts}

module _ {I : Type 0} (m : Ghosts I) where
  -- the token of a segment is here
  abbrev pub IsHere : I → ℕ → Type 0
  IsHere images segment = IsSome (m.number_of images segment)

  abbrev pub holders_of : I → ℕ → Holders
  holders_of images segment = (m.image_of images segment).holders

  -- and no transaction holds the segment
  abbrev pub IsFree : I → ℕ → Type 0
  IsFree images segment = IsHere images segment × (holders_of images segment ≡ Free)

  -- and no transaction holds it for writing
  abbrev pub IsReadable : I → ℕ → Type 0
  IsReadable images segment = IsHere images segment × (writer_of (holders_of images segment) ≡ None)

  abbrev pub bytes_of : I → ℕ → List ℕ
  bytes_of images segment = (m.image_of images segment).bytes.items

  -- it can be locked for what is asked of it: to write one of these segments, to read one of those
  pub record IsLockable (images : I) (segments reading : List ℕ) (segment : ℕ) : Type 0 where
    pub for_writing : IsTrue (is_member segment segments) → IsFree images segment
    pub for_reading : IsTrue (is_member segment reading) → IsReadable images segment

  -- the least segment of both lists that cannot be locked
  pub record IsFirstTaken (images : I) (segments reading : List ℕ) (segment : ℕ) : Type 0 where
    pub member : IsTrue (is_member segment segments || is_member segment reading)
    pub taken : IsLockable images segments reading segment → ⊥
    pub least : (other : ℕ) → other < segment → IsLockable images segments reading other

  -- nothing but the images of these segments has changed
  pub record IsSameBut (segments : List ℕ) (old new : I) : Type 0 where
    pub numbers : (segment : ℕ) → m.number_of new segment ≡ m.number_of old segment
    pub others : (segment : ℕ) → IsHere old segment → is_member segment segments ≡ false → m.image_of new segment ≡ m.image_of old segment
    pub beside : m.IsSameBeside old new

  abbrev pub IsSame : I → I → Type 0
  IsSame old new = IsSameBut [] old new

  -- the thread holds these segments for writing and reads those; all have the bytes that they had
  pub record AreLocked (thread : ℕ) (segments reading : List ℕ) (old new : I) : Type 0 where
    pub same : IsSameBut (segments ++ reading) old new
    pub writer_is : (segment : ℕ) → IsTrue (is_member segment segments) → holders_of new segment ≡ Writer thread
    pub joins : (segment : ℕ) → IsTrue (is_member segment reading) → Joins thread (holders_of old segment) (holders_of new segment)
    pub same_bytes : (segment : ℕ) → IsTrue (is_member segment (segments ++ reading)) → bytes_of new segment ≡ bytes_of old segment

  -- the thread has given its locks back: these segments are free, and those have lost this reader alone
  pub record AreFreed (thread : ℕ) (segments reading : List ℕ) (old new : I) : Type 0 where
    pub same : IsSameBut (segments ++ reading) old new
    pub free : (segment : ℕ) → IsTrue (is_member segment segments) → holders_of new segment ≡ Free
    pub leaves : (segment : ℕ) → IsTrue (is_member segment reading) → Leaves thread (holders_of old segment) (holders_of new segment)
    pub same_read : (segment : ℕ) → IsTrue (is_member segment reading) → bytes_of new segment ≡ bytes_of old segment

  -- and the free ones have the bytes that they had
  pub record AreReleased (thread : ℕ) (segments reading : List ℕ) (old new : I) : Type 0 where
    pub freed : AreFreed thread segments reading old new
    pub same_bytes : (segment : ℕ) → IsTrue (is_member segment segments) → bytes_of new segment ≡ bytes_of old segment

  -- bytes are laid over those of a segment from an offset on
  pub record IsWritten (old : I) (segment offset : ℕ) (bytes : List ℕ) (new : I) : Type 0 where
    pub same : IsSameBut (segment ∷ []) old new
    pub same_holders : holders_of new segment ≡ holders_of old segment
    pub bytes_are : bytes_of new segment ≡ put offset bytes (bytes_of old segment)

  -- and the free ones have the bytes that were kept
  pub record AreRestored (copies : List OldBytes) (thread : ℕ) (segments reading : List ℕ) (old new : I) : Type 0 where
    pub freed : AreFreed thread segments reading old new
    pub same_length : (segment : ℕ) → IsTrue (is_member segment segments) → length (bytes_of new segment) ≡ length (bytes_of old segment)
    pub bytes_are : (segment k : ℕ) → IsTrue (is_member segment segments)
        → slice_index (bytes_of new segment) k ≡ unwrap_or (kept copies segment k) (slice_index (bytes_of old segment) k)

-- What the walks over segments that are to be locked give.
use Rattle.std.specs.Prelude.{◌≡◌, ℕ, ◌<◌, List, Option, Some, None, length, min, unwrap_or, slice_index, IsTrue}
use Rattle.lc_record.specs.Transaction.{is_member}
use Rattle.lc_range.specs.Undo.{OldBytes, kept}
use Rattle.lc_tx.specs.Holders.{Leaves}
use Rattle.lc_tx.specs.Images.{IsHere, IsSameBut, bytes_of, holders_of}
use Rattle.lc_tx.specs.LockMode.{Allow, Takes}
use Rattle.lc_tx.specs.declared.images.Images.{Ghosts}
use Rattle.lc_tx.specs.declared.lock_mode.LockMode.{LockMode}

-- the lesser of two numbers, either of which may be missing
abbrev pub lesser : Option ℕ → Option ℕ → Option ℕ
lesser (Some one) (Some other) = Some (min one other)
lesser one None = one
lesser None other = other

module _ {I : Type 0} (m : Ghosts I) where
  -- the segment is here, and can be locked in this mode
  abbrev pub CanLock : LockMode → I → ℕ → Type 0
  CanLock mode images segment = IsHere m images segment × Allow mode (holders_of m images segment)

  -- the least of these segments that cannot be locked, if there is one
  abbrev pub IsLeastShut : LockMode → I → List ℕ → Option ℕ → Type 0
  IsLeastShut mode images segments None = (segment : ℕ) → IsTrue (is_member segment segments) → CanLock mode images segment
  IsLeastShut mode images segments (Some least) =
      IsTrue (is_member least segments) × (CanLock mode images least → ⊥)
      × ((segment : ℕ) → IsTrue (is_member segment segments) → segment < least → CanLock mode images segment)

  -- the thread has locked these segments in this mode
  pub record AreTaken (mode : LockMode) (thread : ℕ) (segments : List ℕ) (old new : I) : Type 0 where
    pub same : IsSameBut m segments old new
    pub takes : (segment : ℕ) → IsTrue (is_member segment segments) → Takes mode thread (holders_of m old segment) (holders_of m new segment)
    pub same_bytes : (segment : ℕ) → IsTrue (is_member segment segments) → bytes_of m new segment ≡ bytes_of m old segment

  -- the thread has given its locks of these segments back
  pub record AreLeft (thread : ℕ) (segments : List ℕ) (old new : I) : Type 0 where
    pub same : IsSameBut m segments old new
    pub leaves : (segment : ℕ) → IsTrue (is_member segment segments) → Leaves thread (holders_of m old segment) (holders_of m new segment)
    pub same_bytes : (segment : ℕ) → IsTrue (is_member segment segments) → bytes_of m new segment ≡ bytes_of m old segment

  -- these segments have the bytes that were kept
  pub record AreBack (copies : List OldBytes) (segments : List ℕ) (old new : I) : Type 0 where
    pub same : IsSameBut m segments old new
    pub same_holders : (segment : ℕ) → IsTrue (is_member segment segments) → holders_of m new segment ≡ holders_of m old segment
    pub same_length : (segment : ℕ) → IsTrue (is_member segment segments) → length (bytes_of m new segment) ≡ length (bytes_of m old segment)
    pub bytes_are : (segment k : ℕ) → IsTrue (is_member segment segments)
        → slice_index (bytes_of m new segment) k ≡ unwrap_or (kept copies segment k) (slice_index (bytes_of m old segment) k)

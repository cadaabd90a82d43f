-- Old bytes, as copies in the order in which they were made.
use Rattle.std.specs.Prelude.{◌≡◌, ◌⊎◌, ℕ, zero, suc, ◌+◌, ◌-◌, ◌<◌, ◌≤◌, ◌==◌, nat_le, if◌then◌else◌, Bool, false, ◌&&◌, List, [], ◌∷◌, length, take, Option, Some, None, IsSome, slice_get}
use Rattle.lc_range.specs.RangeSet.{Has, IsCanonical, AreOutside, CountsOutside}
use Rattle.lc_range.specs.declared.range.Range.{Range}

-- a copy of bytes that stood in a segment from offset on
pub record OldBytes : Type 0 where
  pub segment : ℕ
  pub offset : ℕ
  pub bytes : List ℕ

-- the byte that a copy has of a position
abbrev pub byte_at : OldBytes → ℕ → ℕ → Option ℕ
byte_at copy segment k =
    if (copy.segment == segment) && nat_le copy.offset k then slice_get copy.bytes (k - copy.offset) else None

abbrev pub first_of : Option ℕ → Option ℕ → Option ℕ
first_of None later = later
first_of (Some byte) later = Some byte

-- the byte kept of a position: that of the first copy that has it
abbrev pub kept : List OldBytes → ℕ → ℕ → Option ℕ
kept [] segment k = None
kept (copy ∷ copies) segment k = first_of (byte_at copy segment k) (kept copies segment k)

-- how many bytes are kept
abbrev pub bytes_kept : List OldBytes → ℕ
bytes_kept [] = 0
bytes_kept (copy ∷ copies) = length copy.bytes + bytes_kept copies

-- the first n bytes of these copies, in their order
abbrev pub first_bytes : ℕ → List OldBytes → List OldBytes
first_bytes zero copies = []
first_bytes (suc n) [] = []
first_bytes (suc n) (copy ∷ copies) = record copy { bytes = take (suc n) copy.bytes } ∷ first_bytes (suc n - length copy.bytes) copies

-- a copy ends at a position of a segment
abbrev pub is_end : OldBytes → ℕ → ℕ → Bool
is_end copy segment k = (copy.segment == segment) && (copy.offset + length copy.bytes == k)

-- the last of these copies does
abbrev pub ends_at : List OldBytes → ℕ → ℕ → Bool
ends_at [] segment k = false
ends_at (copy ∷ []) segment k = is_end copy segment k
ends_at (copy ∷ next ∷ copies) segment k = ends_at (next ∷ copies) segment k

-- 1 where the first of these runs begins right where the last copy ends, else 0
abbrev pub continuing : List OldBytes → List Range → ℕ
continuing copies [] = 0
continuing copies (run ∷ runs) = if ends_at copies run.segment run.offset then 1 else 0

-- a copy is added for each run of len positions from offset on that are not in the set, but for one that continues the
-- last copy
abbrev pub AddsCopies : List OldBytes → List Range → ℕ → ℕ → ℕ → List OldBytes → Type 0
AddsCopies old set segment offset len new =
    (runs : List Range) × IsCanonical runs × AreOutside set segment offset len runs × (length new + continuing old runs ≡ length old + length runs)

-- these copies take memory: more than 8 are there, or more than 64 bytes
abbrev pub TakeMemory : List OldBytes → Type 0
TakeMemory copies = (8 < length copies) ⊎ (64 < bytes_kept copies)

-- with the old bytes of len positions from offset on, more than n copies would be there
abbrev pub NeedsCopiesAbove : ℕ → List OldBytes → List Range → ℕ → ℕ → ℕ → Type 0
NeedsCopiesAbove n old set segment offset len =
    (runs : List Range) × IsCanonical runs × AreOutside set segment offset len runs × (n + continuing old runs < length old + length runs)

-- with them, more than n bytes would be kept
abbrev pub NeedsBytesAbove : ℕ → List OldBytes → List Range → ℕ → ℕ → ℕ → Type 0
NeedsBytesAbove n old set segment offset len = (more : ℕ) × CountsOutside set segment offset len more × (n < bytes_kept old + more)

-- all that is kept of a segment lies below a position
abbrev pub LiesBelow : List OldBytes → ℕ → ℕ → Type 0
LiesBelow copies segment bound = (k : ℕ) → IsSome (kept copies segment k) → k < bound

-- of each position: what was kept; else the image's byte, in len positions of a segment from offset on that are not in
-- the set; else nothing
pub record KeepsOld (old : List OldBytes) (set : List Range) (segment offset len : ℕ) (image : ℕ → ℕ) (new : List OldBytes) : Type 0 where
  pub first : (s k byte : ℕ) → kept old s k ≡ Some byte → kept new s k ≡ Some byte
  pub fresh : (k : ℕ) → kept old segment k ≡ None → offset ≤ k → k < offset + len → (Has set segment k → ⊥) → kept new segment k ≡ Some (image k)
  pub others : (s k : ℕ) → kept old s k ≡ None → (s ≡ segment → offset ≤ k → k < offset + len → Has set s k) → kept new s k ≡ None

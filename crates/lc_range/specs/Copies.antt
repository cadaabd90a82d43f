-- Copies that lie flat, their ranges and all bytes one after another; and copies with more after them.
use Rattle.smallvec.specs.SmallVec.{SmallVec}
use Rattle.std.specs.Prelude.{◌≡◌, ℕ, zero, suc, ◌+◌, ◌-◌, ◌≤◌, if◌then◌else◌, Bool, false, min, List, [], ◌∷◌, ◌++◌, length, take, drop}
use Rattle.lc_range.specs.Undo.{OldBytes, is_end}
use Rattle.lc_range.specs.RangeSet.{total_len}
use Rattle.lc_range.specs.Walk.{is_continued}
use Rattle.lc_range.specs.declared.range.Range.{Range}

abbrev pub copies_of : List Range → List ℕ → List OldBytes
copies_of [] bytes = []
copies_of (range ∷ ranges) bytes =
    record { segment = range.segment; offset = range.offset; bytes = take range.len bytes } ∷ copies_of ranges (drop range.len bytes)

-- no range is empty
abbrev pub AreSome : List Range → Type 0
AreSome [] = Unit {0}
AreSome (range ∷ ranges) = (1 ≤ range.len) × AreSome ranges

pub record AreCopies (ranges : List Range) (bytes : List ℕ) : Type 0 where
  pub some : AreSome ranges
  pub whole : length bytes ≡ total_len ranges

-- what is kept, with a place for 8 ranges and 64 bytes that takes no memory
pub record AreKept (ranges : SmallVec Range) (bytes : SmallVec ℕ) : Type 0 where
  pub copies : AreCopies ranges.items bytes.items
  pub few_ranges : 8 ≤ ranges.capacity
  pub few_bytes : 64 ≤ bytes.capacity

-- a range continues the last of these
abbrev pub is_last_continued : List Range → Range → Bool
is_last_continued [] more = false
is_last_continued (range ∷ []) more = is_continued range more
is_last_continued (range ∷ next ∷ ranges) more = is_last_continued (next ∷ ranges) more

-- these ranges with one more, by which the last grows where that continues it
abbrev pub with_range : List Range → Range → List Range
with_range [] more = more ∷ []
with_range (range ∷ []) more = if is_continued range more then record range { len = range.len + more.len } ∷ [] else range ∷ more ∷ []
with_range (range ∷ next ∷ ranges) more = range ∷ with_range (next ∷ ranges) more

-- the ranges of the first n of their positions, in their order
abbrev pub first_ranges : ℕ → List Range → List Range
first_ranges zero ranges = []
first_ranges (suc n) [] = []
first_ranges (suc n) (range ∷ ranges) = record range { len = min (suc n) range.len } ∷ first_ranges (suc n - range.len) ranges

-- these copies with one more, by which the last grows where that continues it
abbrev pub with_copy : List OldBytes → OldBytes → List OldBytes
with_copy [] more = more ∷ []
with_copy (copy ∷ []) more = if is_end copy more.segment more.offset then record copy { bytes = copy.bytes ++ more.bytes } ∷ [] else copy ∷ more ∷ []
with_copy (copy ∷ next ∷ copies) more = copy ∷ with_copy (next ∷ copies) more

-- the bytes that an image has at a range
abbrev pub copy_at : List ℕ → Range → OldBytes
copy_at image range = record { segment = range.segment; offset = range.offset; bytes = take range.len (drop range.offset image) }

-- these copies with those of an image's bytes at ranges
abbrev pub with_copies : List OldBytes → List ℕ → List Range → List OldBytes
with_copies copies image [] = copies
with_copies copies image (range ∷ ranges) = with_copies (with_copy copies (copy_at image range)) image ranges

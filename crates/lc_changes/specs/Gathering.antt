-- What is gathered of an image.
use Rattle.std.specs.Prelude.{ℕ, ◌+◌, ◌≤◌, ◌==◌, if◌then◌else◌, List, [], ◌∷◌, ◌++◌, length, take, drop}
use Rattle.lc_record.specs.Content.{put}
use Rattle.lc_range.specs.declared.range.Range.{Range}

-- the bytes that a segment's image has at a range, if that is of the segment
abbrev pub part_at : ℕ → List ℕ → Range → List ℕ
part_at segment image range = if range.segment == segment then take range.len (drop range.offset image) else []

-- those that it has at its ranges of these, one range after another
abbrev pub bytes_at : ℕ → List ℕ → List Range → List ℕ
bytes_at segment image [] = []
bytes_at segment image (range ∷ ranges) = part_at segment image range ++ bytes_at segment image ranges

-- what is gathered of the images of these segments, one after another
abbrev pub gathered : (ℕ → List ℕ) → List ℕ → List Range → List ℕ
gathered images [] set = []
gathered images (segment ∷ segments) set = bytes_at segment (images segment) set ++ gathered images segments set

-- the bytes that the images of the segments have at these ranges, one range after another
abbrev pub values_of : (ℕ → List ℕ) → List Range → List ℕ
values_of images [] = []
values_of images (range ∷ ranges) = take range.len (drop range.offset (images range.segment)) ++ values_of images ranges

-- each of these ranges lies in the image of its segment
abbrev pub LieInImages : (ℕ → List ℕ) → List Range → Type 0
LieInImages images [] = Unit {0}
LieInImages images (range ∷ ranges) = (range.offset + range.len ≤ length (images range.segment)) × LieInImages images ranges

-- a segment's bytes with gathered ones put at their ranges, those of the segment alone, in turn
abbrev pub puts_at : ℕ → List Range → List ℕ → List ℕ → List ℕ
puts_at segment [] values bytes = bytes
puts_at segment (range ∷ ranges) values bytes =
    puts_at segment ranges (drop range.len values) (if range.segment == segment then put range.offset (take range.len values) bytes else bytes)

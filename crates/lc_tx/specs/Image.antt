-- The bytes of a segment.
use Rattle.std.specs.Prelude.{ℕ, List, [], ◌∷◌}
use Rattle.lc_record.specs.Content.{put}
use Rattle.lc_record.specs.declared.record.RangeData.{RangeData}

-- the bytes with those of these ranges laid over them, the first of them first
abbrev pub laid_over : List RangeData → List ℕ → List ℕ
laid_over [] bytes = bytes
laid_over (range ∷ ranges) bytes = laid_over ranges (put range.offset range.bytes bytes)

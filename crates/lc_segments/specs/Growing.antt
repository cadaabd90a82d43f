-- How much the applied parts of a segment take.
use Rattle.std.specs.Prelude.{ℕ, ◌+◌, ◌*◌, ◌<◌, List, [], ◌∷◌, length}
use Rattle.lc_range.specs.declared.range.Range.{Range}
use Rattle.lc_record.specs.declared.part.Part.{Part}
use Rattle.lc_record.specs.declared.record.RangeData.{RangeData}
use Rattle.lc_applied.specs.AppliedParts.{laid_parts}
use Rattle.lc_segments.specs.SegView.{SegView}

-- what a part takes, and what each of its ranges takes beside its bytes
abbrev pub entry_size : ℕ
entry_size = 48

abbrev pub ranges_size : List RangeData → ℕ
ranges_size [] = 0
ranges_size (range ∷ ranges) = entry_size + length range.bytes + ranges_size ranges

-- the same, of runs
abbrev pub runs_size : List Range → ℕ
runs_size [] = 0
runs_size (run ∷ runs) = entry_size + run.len + runs_size runs

abbrev pub part_size : Part → ℕ
part_size part = entry_size + ranges_size part.ranges

abbrev pub parts_size : List Part → ℕ
parts_size [] = 0
parts_size (part ∷ parts) = part_size part + parts_size parts

module _ {D : Type 0} where
  -- the applied parts take more than twice the segment's bytes
  abbrev pub HasGrown : SegView D → Type 0
  HasGrown s = 2 * length s.base < parts_size s.applied

  -- they are folded into the base
  abbrev pub folded : SegView D → SegView D
  folded s = record s { base = laid_parts s.applied s.base; applied = [] }

-- The parts of records that were applied at a segment.
use Rattle.std.specs.Prelude.{ℕ, ◌==◌, ◌<◌, ◌≤◌, List, [], ◌∷◌, drop, filter, length, map, take}
use Rattle.lc_range.specs.RangeSet.{total_len}
use Rattle.lc_range.specs.declared.range.Range.{Range}
use Rattle.lc_record.specs.declared.part.Part.{Part}
use Rattle.lc_record.specs.declared.record.RangeData.{RangeData}
use Rattle.lc_tx.specs.Image.{laid_over}

-- the bytes with these parts of records put on, one after another
abbrev pub laid_parts : List Part → List ℕ → List ℕ
laid_parts [] bytes = bytes
laid_parts (part ∷ parts) bytes = laid_parts parts (laid_over part.ranges bytes)

-- the bytes of an image in a run, as a record's range has them
abbrev pub range_of_run : List ℕ → Range → RangeData
range_of_run image run =
    record { segment = run.segment; offset = run.offset; bytes = take run.len (drop run.offset image) }

-- those of these runs that are of a segment
abbrev pub runs_of : ℕ → List Range → List Range
runs_of segment runs = filter (λ run. run.segment == segment) runs

-- the part that these runs have of a segment, under a number
abbrev pub part_of_runs : ℕ → ℕ → List Range → List ℕ → Part
part_of_runs segment seq runs image =
    record { segment = segment; seq = seq; ranges = map (range_of_run image) (runs_of segment runs) }

-- the parts in order; for how many parts there is room in all; and for how many runs and bytes there is more
pub record Applied : Type 0 where
  pub parts : List Part
  pub room : ℕ
  pub runs_left : ℕ
  pub bytes_left : ℕ

-- there is room for one more part, which has so many runs and bytes
pub record HasRoom (runs bytes : ℕ) (applied : Applied) : Type 0 where
  pub part : length applied.parts < applied.room
  pub few_runs : runs ≤ applied.runs_left
  pub few_bytes : bytes ≤ applied.bytes_left

-- there is room for the part that these runs have of a segment
abbrev pub HasRoomFor : ℕ → List Range → Applied → Type 0
HasRoomFor segment runs applied = HasRoom (length (runs_of segment runs)) (total_len (runs_of segment runs)) applied

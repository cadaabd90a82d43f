-- What is kept of the parts: entries, and the runs and bytes of those that were made here, one after another.
use Rattle.std.specs.Prelude.{◌≡◌, ℕ, ◌+◌, List, [], ◌∷◌, ◌++◌, drop, length, take}
use Rattle.lc_range.specs.RangeSet.{total_len}
use Rattle.lc_range.specs.declared.range.Range.{Range}
use Rattle.lc_record.specs.declared.part.Part.{Part}
use Rattle.lc_record.specs.declared.record.RangeData.{RangeData}
use Rattle.lc_applied.specs.declared.applied_part.AppliedPart.{AppliedPart}
use Rattle.lc_applied.specs.declared.applied_part.AppliedPart.TheVariants.{Given, Own}

-- the bytes that an image has in these runs, one after another
abbrev pub bytes_of : List Range → List ℕ → List ℕ
bytes_of [] image = []
bytes_of (run ∷ runs) image = take run.len (drop run.offset image) ++ bytes_of runs image

-- these runs, with bytes that lie one after another
abbrev pub ranges_of : List Range → List ℕ → List RangeData
ranges_of [] bytes = []
ranges_of (run ∷ runs) bytes =
    record { segment = run.segment; offset = run.offset; bytes = take run.len bytes }
    ∷ ranges_of runs (drop run.len bytes)

-- how many runs an entry has
abbrev pub runs_used : AppliedPart → ℕ
runs_used (Given part) = 0
runs_used (Own segment seq runs) = runs

-- its part, where its runs and their bytes are the first of these
abbrev pub part_in : AppliedPart → List Range → List ℕ → Part
part_in (Given part) runs bytes = part
part_in (Own segment seq count) runs bytes =
    record { segment = segment; seq = seq; ranges = ranges_of (take count runs) bytes }

-- the parts of these entries, one after another
abbrev pub parts_of : List AppliedPart → List Range → List ℕ → List Part
parts_of [] runs bytes = []
parts_of (entry ∷ entries) runs bytes =
    part_in entry runs bytes
    ∷ parts_of entries (drop (runs_used entry) runs) (drop (total_len (take (runs_used entry) runs)) bytes)

-- how many runs these entries have
abbrev pub runs_in : List AppliedPart → ℕ
runs_in [] = 0
runs_in (entry ∷ entries) = runs_used entry + runs_in entries

-- these entries have exactly these runs, and the runs these bytes
pub record AreUsedUp (entries : List AppliedPart) (runs : List Range) (bytes : List ℕ) : Type 0 where
  pub runs_are : runs_in entries ≡ length runs
  pub bytes_are : total_len runs ≡ length bytes

-- Which pages the ranges of a record touch.
use Rattle.std.specs.Prelude.{ℕ, suc, ◌+◌, ◌*◌, ◌&&◌, nat_lt, Bool, List, [], ◌∷◌, length, if◌then◌else◌}
use Rattle.std.specs.List.{list_any}
use Rattle.lc_range.specs.declared.range.Range.{Range}
use Rattle.lc_record.specs.Marks.{counting}
use Rattle.lc_record.specs.declared.record.RangeData.{RangeData}
use Rattle.lc_page.specs.declared.page_entry.PageEntry.{PageEntry}
use Rattle.lc_page.specs.PageVector.{touched_at}

-- the range has a byte on the page
abbrev pub is_on : ℕ → RangeData → Bool
is_on page range = nat_lt 0 (length range.bytes) && (nat_lt range.offset (page * 256 + 256) && nat_lt (page * 256) (range.offset + length range.bytes))

-- the entry of the page, touched under this number where one of the ranges has a byte on the page
abbrev pub touched_by : List RangeData → ℕ → ℕ → PageEntry → PageEntry
touched_by ranges seq page entry = if list_any (is_on page) ranges then touched_at entry seq else entry

-- the entries of the pages from this one on, touched so
abbrev pub touched_from : List RangeData → ℕ → ℕ → List PageEntry → List PageEntry
touched_from ranges seq page [] = []
touched_from ranges seq page (entry ∷ entries) = touched_by ranges seq page entry ∷ touched_from ranges seq (suc page) entries

-- those of all pages
abbrev pub touched_pages : List RangeData → ℕ → List PageEntry → List PageEntry
touched_pages ranges seq entries = touched_from ranges seq 0 entries

-- a range at the positions of a run: which bytes it has does not matter here
abbrev pub range_at : Range → RangeData
range_at run = record { segment = run.segment; offset = run.offset; bytes = counting 0 run.len }

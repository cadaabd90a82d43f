-- Which ranges are to be put on which pages, while the records are walked.
use Rattle.std.specs.Prelude.{◌≡◌, ◌⊎◌, ℕ, ◌+◌, ◌*◌, ◌<◌, List, [], ◌∷◌, ◌++◌, length, map, Contains, Some, IsTrue, slice_get}
use Rattle.lc_record.specs.Content.{segment_of}
use Rattle.lc_record.specs.GrammarVersion.{end_of}
use Rattle.lc_record.specs.Newest.{number_or_zero, has_byte}
use Rattle.lc_record.specs.Spans.{placed_spans}
use Rattle.lc_record.specs.declared.placed_span.PlacedSpan.{PlacedSpan}
use Rattle.lc_record.specs.declared.record.Record.{Record}
use Rattle.lc_record.specs.declared.span.Span.{Span}
use Rattle.lc_page.specs.PageVector.{entry_at}
use Rattle.lc_page.specs.declared.page_entry.PageEntry.{PageEntry}
use Rattle.lc_model.specs.Merge.{Page}
use Rattle.lc_recover.specs.StoreContents.{Reaches}
use Rattle.lc_recover.specs.Reading.{placed_in}
use Rattle.lc_recover.specs.declared.redo_range.RedoRange.{RedoRange}

-- a record that stands at a place of a log
pub record PlacedRecord : Type 0 where
  pub log : ℕ
  pub place : ℕ
  pub its : Record

abbrev pub seat : ℕ → ℕ → Record → PlacedRecord
seat log place r = record { log = log; place = place; its = r }

-- the records of a log
abbrev pub seats_of : ℕ → List ℕ → List PlacedRecord
seats_of log words = map (λ (x : ℕ × Record). seat log x.0 x.1) (placed_in words)

-- those of these logs, the first of which has this number
abbrev pub seats_from : ℕ → List (List ℕ) → List PlacedRecord
seats_from log [] = []
seats_from log (words ∷ logs) = seats_of log words ++ seats_from (log + 1) logs

-- the range has a byte on the page
abbrev pub Touches : Span → ℕ → Type 0
Touches span page = (span.offset < (page + 1) * 256) × (page * 256 < end_of span)

-- the change on this page
abbrev pub on_page : RedoRange → ℕ → RedoRange
on_page change page = record change { page = page }

-- the change of a range of the record of a seat on a page, under a number
abbrev pub change_under : ℕ → PlacedRecord → PlacedSpan → ℕ → RedoRange
change_under seq s placed page = record {
  segment = placed.span.segment;
  page = page;
  seq = seq;
  log = s.log;
  place = s.place;
  words = placed.place;
  offset = placed.span.offset;
  len = placed.span.len;
}

-- under its record's
abbrev pub change_on : PlacedRecord → PlacedSpan → ℕ → RedoRange
change_on s placed page = change_under (number_or_zero placed.span.segment s.its.locks) s placed page

-- what is there stays, and what is new is such
pub record Adds (Such : RedoRange → Type 0) (before after : List RedoRange) : Type 0 where
  pub kept : (c : RedoRange) → Contains before c → Contains after c
  pub only : (c : RedoRange) → Contains after c → Contains before c ⊎ Such c

-- the range is to be put on the page, which it has a byte on
pub record IsOnRange (change : RedoRange) (span : Span) (texts : List PageEntry) (c : RedoRange) : Type 0 where
  pub number : ℕ
  pub is : c ≡ on_page change number
  pub within : number < length texts
  pub touches : Touches span number
  pub newer : (entry_at texts number).stable < change.seq

-- the change is of a range of the record of the seat, which has a byte on the page, and a number above the page's
pub record IsOf (pages : List (List Page)) (s : PlacedRecord) (c : RedoRange) : Type 0 where
  pub placed : PlacedSpan
  pub its : Contains (placed_spans s.its) placed
  pub is : c ≡ change_on s placed c.page
  pub text : Page
  pub page : slice_get (segment_of c.segment pages) c.page ≡ Some text
  pub newer : text.sequence < c.seq
  pub offset : ℕ
  pub on_page : offset < 256
  pub has : Reaches c (c.page * 256 + offset)

-- a range of the record of the seat is to be put on some page
abbrev pub HasOf : List (List Page) → PlacedRecord → Type 0
HasOf pages s = (c : RedoRange) × IsOf pages s c

-- so with some record of these seats
abbrev pub SomeIsOf : List (List Page) → List PlacedRecord → Type 0
SomeIsOf pages seats = (s : PlacedRecord) × Contains seats s × HasOf pages s

-- for each byte that the record of the seat has for an older page there is one of these
abbrev pub Covers : List (List Page) → PlacedRecord → List RedoRange → Type 0
Covers pages s changes =
    (segment page offset : ℕ) (text : Page) → slice_get (segment_of segment pages) page ≡ Some text → offset < 256 →
    IsTrue (has_byte segment (page * 256 + offset) text.sequence s.its) →
    (c : RedoRange) × Contains changes c × (c.segment ≡ segment) × (c.page ≡ page) × (c.seq ≡ number_or_zero segment s.its.locks)
    × Reaches c (page * 256 + offset)

-- these are the changes of these records
pub record AreOf (pages : List (List Page)) (seats : List PlacedRecord) (changes : List RedoRange) : Type 0 where
  pub sound : (c : RedoRange) → Contains changes c → (s : PlacedRecord) × Contains seats s × IsOf pages s c
  pub whole : (s : PlacedRecord) → Contains seats s → Covers pages s changes

-- The store that the kept words and pages stand for, and which ranges are to be put on which pages.
use Rattle.std.specs.Prelude.{ℕ, ◌≡◌, ◌+◌, ◌-◌, ◌*◌, ◌<◌, ◌≤◌, ◌⊎◌, max, List, [], ◌∷◌, length, map, take, drop, All, Contains, Some, IsTrue, slice_get, slice_index_or}
use Rattle.lc_record.specs.Content.{segment_of}
use Rattle.lc_record.specs.Newest.{number_or_zero, has_byte}
use Rattle.lc_record.specs.Record.{IsCanonical}
use Rattle.lc_record.specs.Words.{bytes_of}
use Rattle.lc_record.specs.declared.record.RangeData.{RangeData}
use Rattle.lc_record.specs.declared.record.Record.{Record}
use Rattle.lc_log.specs.LogText.{IsLogText}
use Rattle.lc_model.specs.Recovered.{IsBehind}
use Rattle.lc_model.specs.Merge.{Page, StoreText, all_records, page_number, record_number, AreOwn, AreWithin, AreOnce, HasGap}
use Rattle.lc_recover.specs.Pages.{kept_pages}
use Rattle.lc_recover.specs.declared.redo_range.RedoRange.{RedoRange}
use Rattle.lc_recover.specs.declared.merged.Merged.{Merged}
use Rattle.lc_recover.specs.declared.segment_pages.SegmentPages.{SegmentPages}

-- the words of the logs and the pages of the segments are those of this store
pub record IsKept (logs : List (List ℕ)) (segments : List SegmentPages) (store : StoreText) : Type 0 where
  pub count : length store.logs ≡ length logs
  pub texts : (log : ℕ) → log < length logs → IsLogText (slice_index_or logs log []) (slice_index_or store.logs log [])
  pub pages : store.pages ≡ map kept_pages segments

-- the change is of this range: it says where the range stands in its segment, and where the words of its bytes stand
pub record Names (logs : List (List ℕ)) (c : RedoRange) (range : RangeData) : Type 0 where
  pub within : c.log < length logs
  pub segment : range.segment ≡ c.segment
  pub offset : range.offset ≡ c.offset
  pub len : length range.bytes ≡ c.len
  pub bytes : take c.len (bytes_of (drop c.words (drop c.place (slice_index_or logs c.log [])))) ≡ range.bytes

-- the range of the change has a byte for the place
abbrev pub Reaches : RedoRange → ℕ → Type 0
Reaches c place = (c.offset ≤ place) × (place < c.offset + c.len)

-- it is of a range of a record of its log, which has this number, and a byte on the page, whose sequence is below the number
pub record IsChange (logs : List (List ℕ)) (store : StoreText) (c : RedoRange) : Type 0 where
  pub changing : Record
  pub among : Contains (slice_index_or store.logs c.log []) changing
  pub canonical : IsCanonical changing
  pub range : RangeData
  pub its : Contains changing.ranges range
  pub names : Names logs c range
  pub number : number_or_zero c.segment changing.locks ≡ c.seq
  pub text : Page
  pub page : slice_get (segment_of c.segment store.pages) c.page ≡ Some text
  pub newer : text.sequence < c.seq
  pub offset : ℕ
  pub on_page : offset < 256
  pub has : Reaches c (c.page * 256 + offset)

-- the first stands before the second: of a lower segment or page, or of the same page and no greater number
abbrev pub IsBefore : RedoRange → RedoRange → Type 0
IsBefore c d =
    (c.segment < d.segment)
    ⊎ ((c.segment ≡ d.segment) × ((c.page < d.page) ⊎ ((c.page ≡ d.page) × (c.seq ≤ d.seq))))

-- each stands before all that follow
abbrev pub AreAscending : List RedoRange → Type 0
AreAscending [] = Unit {0}
AreAscending (c ∷ cs) = All (IsBefore c) cs × AreAscending cs

-- the changes are of ranges that are to be put on pages, and for each byte there is one of each record that has it; in order
pub record IsIndex (logs : List (List ℕ)) (store : StoreText) (changes : List RedoRange) : Type 0 where
  pub sound : All (IsChange logs store) changes
  pub whole : (segment page offset : ℕ) (text : Page) (r : Record) →
      slice_get (segment_of segment store.pages) page ≡ Some text → Contains (all_records store) r → offset < 256 →
      IsTrue (has_byte segment (page * 256 + offset) text.sequence r) →
      (c : RedoRange) × Contains changes c × (c.segment ≡ segment) × (c.page ≡ page) × (c.seq ≡ number_or_zero segment r.locks)
      × Reaches c (page * 256 + offset)
  pub ascending : AreAscending changes

-- no fault is found in the store
pub record IsFaultless (store : StoreText) : Type 0 where
  pub own : AreOwn store
  pub lying_within : AreWithin store
  pub once : AreOnce store
  pub no_gap : (segment seq : ℕ) → HasGap store segment seq → ⊥

-- some record is newer than a page of the store
abbrev pub HasNewer : StoreText → Type 0
HasNewer store =
    (segment : ℕ) × (page : ℕ) × (text : Page)
    × (slice_get (segment_of segment store.pages) page ≡ Some text) × IsBehind store segment page text

-- the store is not refused, these are its numbers, and these the changes of its pages
pub record IsMerging (logs : List (List ℕ)) (store : StoreText) (merged : Merged) : Type 0 where
  pub own : AreOwn store
  pub lying_within : AreWithin store
  pub once : AreOnce store
  pub no_gap : (segment seq : ℕ) → HasGap store segment seq → ⊥
  pub count : length merged.numbers.items ≡ length store.pages
  pub numbers : (segment : ℕ) → 1 ≤ segment → segment ≤ length store.pages →
      slice_get merged.numbers.items (segment - 1) ≡ Some (max (page_number segment store) (record_number segment store))
  pub index : IsIndex logs store merged.changes.items

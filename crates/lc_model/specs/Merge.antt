-- What recovery makes of the records of all logs and of the pages of all segments (RVM: latest committed changes).
use Rattle.std.specs.Prelude.{◌≡◌, ◌≢◌, ℕ, ◌+◌, ◌*◌, ◌<◌, ◌≤◌, max, Bool, ◌==◌, ◌⊎◌, List, [], ◌∷◌, map, length, filter, flat_map, Some, Contains, slice_get, slice_index_or}
use Rattle.lc_record.specs.Content.{Content, segment_of}
use Rattle.lc_record.specs.GrammarVersion.{end_of}
use Rattle.lc_record.specs.Record.{span_of}
use Rattle.lc_record.specs.declared.record.Record.{Record}
use Rattle.lc_record.specs.declared.record.Lock.{Lock}
use Rattle.lc_record.specs.declared.record.RangeData.{RangeData}
use Rattle.lc_record.specs.Newest.{number_or_zero, IsByNumber}
use Rattle.lc_model.specs.Merging.{byte_at}

-- a page as it reads
pub record Page : Type 0 where
  pub sequence : ℕ
  pub bytes : List ℕ

-- what the areas of a store read as: the records of each log, and the pages of each segment; segment 1 stands first
pub record StoreText : Type 0 where
  pub logs : List (List Record)
  pub pages : List (List Page)

-- the records of all logs
abbrev pub all_records : StoreText → List Record
all_records store = flat_map (λ log. log) store.logs

-- the greatest of these numbers, 0 where there are none
abbrev pub greatest : List ℕ → ℕ
greatest [] = 0
greatest (n ∷ ns) = max n (greatest ns)

-- the greatest sequence of the segment's pages
abbrev pub page_number : ℕ → StoreText → ℕ
page_number segment store = greatest (map (λ (p : Page). p.sequence) (segment_of segment store.pages))

-- the greatest number of the segment in a record
abbrev pub record_number : ℕ → StoreText → ℕ
record_number segment store =
    greatest (map (λ (r : Record). number_or_zero segment r.locks) (all_records store))

-- the record has this number of the segment
abbrev pub has_number : ℕ → ℕ → Record → Bool
has_number segment seq r = number_or_zero segment r.locks == seq

-- how many records have this number of the segment
abbrev pub how_many : ℕ → ℕ → StoreText → ℕ
how_many segment seq store = length (filter (has_number segment seq) (all_records store))

-- two records, in whatever logs, have the same lock and number
abbrev pub IsTwice : StoreText → ℕ → ℕ → Type 0
IsTwice store segment seq = (0 < seq) × (2 ≤ how_many segment seq store)

-- a record has a number above this one, which is above all page sequences, and none has it
abbrev pub IsGap : StoreText → ℕ → ℕ → Type 0
IsGap store segment seq =
    (page_number segment store < seq) × (how_many segment seq store ≡ 0)
    × ((r : Record) × Contains (all_records store) r × (seq < number_or_zero segment r.locks))

-- the byte is that of the record with the greatest number among those that cover it and are above its page's sequence,
-- or the page's where there is none
abbrev pub HasBytes : StoreText → Content → ℕ → ℕ → Page → Type 0
HasBytes store content segment page text =
    (offset : ℕ) → offset < 256 →
    IsByNumber segment (page * 256 + offset) text.sequence (all_records store)
    (slice_get text.bytes offset) (byte_at segment (page * 256 + offset) content)

-- no number stands twice or is missing, and the result is this content, with these numbers of the segments
pub record IsMerged (store : StoreText) (content : Content) (numbers : ℕ → ℕ) : Type 0 where
  pub not_twice : (segment seq : ℕ) → IsTwice store segment seq → ⊥
  pub no_gap : (segment seq : ℕ) → 1 ≤ segment → segment ≤ length store.pages → IsGap store segment seq → ⊥
  pub shape : map length content ≡ map (λ (pages : List Page). length pages * 256) store.pages
  pub bytes : (segment page : ℕ) (text : Page)
      → slice_get (segment_of segment store.pages) page ≡ Some text →
      HasBytes store content segment page text
  pub counted : (segment : ℕ) → 1 ≤ segment → segment ≤ length store.pages →
      numbers segment ≡ max (page_number segment store) (record_number segment store)

-- Refusals

-- why a store is not merged; the log of a node is the area of its number
pub data MergeFault : Type 0 where
  BadGeometry : (area : ℕ) → MergeFault
  OutOfSegment : (area : ℕ) → MergeFault
  Twice : (segment seq : ℕ) → MergeFault
  Gap : (segment seq : ℕ) → MergeFault

-- a record of the log is such
abbrev pub HasInLog : (Record → Type 0) → StoreText → ℕ → Type 0
HasInLog Such store log = (r : Record) × Contains (slice_index_or store.logs log []) r × Such r

-- a record of the log names another node
abbrev pub HasOtherNode : StoreText → ℕ → Type 0
HasOtherNode store log = HasInLog (λ r. r.node ≢ log) store log

-- a lock names a segment above those of the store, or a range ends past its segment
abbrev pub IsOutside : StoreText → Record → Type 0
IsOutside store r =
    ((lock : Lock) × Contains r.locks lock × (length store.pages < lock.segment))
    ⊎ ((range : RangeData) × Contains r.ranges range
    × (length (segment_of range.segment store.pages) * 256 < end_of (span_of range)))

-- a record of the log does not lie within the segments
abbrev pub HasOutside : StoreText → ℕ → Type 0
HasOutside store log = HasInLog (IsOutside store) store log

-- a number of one of the store's segments is missing
abbrev pub HasGap : StoreText → ℕ → ℕ → Type 0
HasGap store segment seq = (1 ≤ segment) × (segment ≤ length store.pages) × IsGap store segment seq

-- the least number that is such
pub record IsLeast (Such : ℕ → Type 0) (n : ℕ) : Type 0 where
  pub is : Such n
  pub least : (other : ℕ) → Such other → n ≤ other

-- the least pair that is such: of the least segment, and of that the least number
pub record IsLeastPair (Such : ℕ → ℕ → Type 0) (segment seq : ℕ) : Type 0 where
  pub is : Such segment seq
  pub least : (other number : ℕ) → Such other number → (segment < other) ⊎ ((segment ≡ other) × (seq ≤ number))

-- each record is of its log's node
abbrev pub AreOwn : StoreText → Type 0
AreOwn store = (log : ℕ) → HasOtherNode store log → ⊥

-- and each lies within the store's segments
abbrev pub AreWithin : StoreText → Type 0
AreWithin store = (log : ℕ) → HasOutside store log → ⊥

-- and each number stands once
abbrev pub AreOnce : StoreText → Type 0
AreOnce store = (segment seq : ℕ) → IsTwice store segment seq → ⊥

-- the merge is refused so: each fault where none before it is found, at the first log or the least pair
abbrev pub Refuses : StoreText → MergeFault → Type 0
Refuses store (BadGeometry area) = IsLeast (HasOtherNode store) area
Refuses store (OutOfSegment area) = AreOwn store × IsLeast (HasOutside store) area
Refuses store (Twice segment seq) = AreOwn store × AreWithin store × IsLeastPair (IsTwice store) segment seq
Refuses store (Gap segment seq) = AreOwn store × AreWithin store × AreOnce store × IsLeastPair (HasGap store) segment seq

-- nothing is refused, and this is the result
abbrev pub MergesTo : StoreText → Content → (ℕ → ℕ) → Type 0
MergesTo store content numbers = AreOwn store × AreWithin store × IsMerged store content numbers

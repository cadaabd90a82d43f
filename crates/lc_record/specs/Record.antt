-- The grammar of records: the one spelling of each record in words of 64 bits.
use Rattle.std.specs.Prelude.{◌≡◌, ◌⊎◌, ◌↔◌, ℕ, ◌+◌, ◌-◌, ◌*◌, ◌^◌, ◌<◌, ◌≤◌, List, [], ◌∷◌, ◌++◌, length, map, replicate}
use Rattle.std.specs.List.{flat_map, AllByRecursion}
use Rattle.lc_record.specs.Words.{words_of, AreBytes}
use Rattle.lc_record.specs.GrammarVersion.{end_of, version_for}
use Rattle.lc_record.specs.Layout.{data_len, first_word, second_word, layout_of, layout_len}
use Rattle.lc_record.specs.declared.grammar_version.GrammarVersion.{GrammarVersion}
use Rattle.lc_record.specs.declared.grammar_version.GrammarVersion.TheVariants.{First, Second}
use Rattle.lc_record.specs.declared.layout.Layout.{Layout}
use Rattle.lc_record.specs.declared.span.Span.{Span}
use Rattle.lc_record.specs.declared.record.Record.{Record}
use Rattle.lc_record.specs.declared.record.Lock.{Lock}
use Rattle.lc_record.specs.declared.record.RangeData.{RangeData}

-- each of these has a relation to the one after it
abbrev pub Chain : {A : Type 0} → (A → A → Type 0) → List A → Type 0
Chain R [] = Unit {0}
Chain R (x ∷ []) = Unit {0}
Chain R (x ∷ y ∷ ys) = R x y × Chain R (y ∷ ys)

-- The layout

-- where a range stands
abbrev pub span_of : RangeData → Span
span_of range = record { segment = range.segment; offset = range.offset; len = length range.bytes }

abbrev pub spans_of : List RangeData → List Span
spans_of ranges = map span_of ranges

-- the second exactly where some range ends beyond 16384
abbrev pub version_of : List RangeData → GrammarVersion
version_of ranges = version_for (spans_of ranges)

abbrev pub record_layout : Record → Layout
record_layout r = layout_of (length r.locks) (spans_of r.ranges)

-- its length, in words
abbrev pub record_len : Record → ℕ
record_len r = layout_len (record_layout r)

-- its first word
abbrev pub header : Record → ℕ
header r = first_word (version_of r.ranges) (length r.ranges) (record_len r)

-- Words

abbrev pub lock_words : Lock → List ℕ
lock_words lock = lock.segment ∷ lock.seq ∷ []

-- the bytes in whole words, the last of them filled up with zeros
abbrev pub data_words : List ℕ → List ℕ
data_words bytes = words_of (bytes ++ replicate (8 * data_len (length bytes) - length bytes) 0)

-- where a range stands: in the first version the segment and the offset share a word
abbrev pub span_words : GrammarVersion → Span → List ℕ
span_words First span = (span.segment + 2 ^ 32 * span.offset) ∷ span.len ∷ []
span_words Second span = span.segment ∷ span.offset ∷ span.len ∷ []

abbrev pub range_words : GrammarVersion → RangeData → List ℕ
range_words version range = span_words version (span_of range) ++ data_words range.bytes

-- the one spelling of a record
abbrev pub spelling : Record → List ℕ
spelling r =
    header r ∷ second_word r.node (length r.locks)
    ∷ (flat_map lock_words r.locks ++ flat_map (range_words (version_of r.ranges)) r.ranges
    ++ record_len r ∷ [])

-- Which records have a spelling

abbrev pub IsLock : Lock → Type 0
IsLock lock = (1 ≤ lock.segment) × (lock.segment ≤ 16) × (1 ≤ lock.seq) × (lock.seq ≤ 2 ^ 60)

abbrev pub IsRange : RangeData → Type 0
IsRange range = (1 ≤ length range.bytes) × (end_of (span_of range) ≤ 262144) × AreBytes range.bytes

-- its bytes are bytes
abbrev pub HoldsBytes : RangeData → Type 0
HoldsBytes range = AreBytes range.bytes

-- of an earlier segment, or of the same with a gap between
abbrev pub IsBefore : RangeData → RangeData → Type 0
IsBefore a b = (a.segment < b.segment) ⊎ ((a.segment ≡ b.segment) × (end_of (span_of a) < b.offset))

-- some lock is of the segment; some range is
abbrev pub Locks : ℕ → List Lock → Type 0
Locks segment [] = ⊥
Locks segment (lock ∷ locks) = (lock.segment ≡ segment) ⊎ Locks segment locks

abbrev pub Writes : ℕ → List RangeData → Type 0
Writes segment [] = ⊥
Writes segment (range ∷ ranges) = (range.segment ≡ segment) ⊎ Writes segment ranges

pub record IsCanonical (r : Record) : Type 0 where
  pub node : r.node ≤ 7
  pub some_locks : 1 ≤ length r.locks
  pub few_locks : length r.locks ≤ 16
  pub each_lock : AllByRecursion IsLock r.locks
  pub locks_ascend : Chain (λ a b. a.segment < b.segment) r.locks
  pub some_ranges : 1 ≤ length r.ranges
  pub few_ranges : length r.ranges ≤ 64
  pub each_range : AllByRecursion IsRange r.ranges
  pub ranges_ascend : Chain IsBefore r.ranges
  pub same_segments : (segment : ℕ) → Locks segment r.locks ↔ Writes segment r.ranges

-- the words are the spelling of the record
pub record IsRecord (r : Record) (words : List ℕ) : Type 0 where
  pub canonical : IsCanonical r
  pub short : record_len r ≤ 4096
  pub spelled : words ≡ spelling r

-- How long spellings are, what words they have, and how they begin.
use Rattle.std.proofs.Common.{◌≡◌, ◌≢◌, ℕ, zero, suc, ◌+◌, ◌*◌, ◌/◌, ◌%◌, ◌^◌, ◌<◌, ◌≤◌, List, [], ◌∷◌, ◌++◌, length, get_or, take, refl, sym, ap, ◌∙◌, inl, inr, arith, length-append}
use Rattle.std.specs.Prelude.{sum_by}
use Rattle.std.specs.List.{flat_map, AllByRecursion}
use Rattle.std.proofs.lemmas.List.{take_all}
use Rattle.std.proofs.lemmas.List.Sums.{sum_by-cons}
use Rattle.lc_record.specs.Words.{AreWords}
use Rattle.lc_record.specs.GrammarVersion.{number, place_words, end_of}
use Rattle.lc_record.specs.Layout.{data_len, first_word, second_word}
use Rattle.lc_record.specs.Record.{record_len, lock_words, span_words, data_words, range_words, header, spelling, span_of, spans_of, version_of, IsLock, IsRange, Locks, Writes, IsCanonical}
use Rattle.lc_record.specs.SpellingView.{SpellingView}
use Rattle.lc_record.specs.Codec.{BeginsNoRecord}
use Rattle.lc_record.specs.declared.record.Record.{Record}
use Rattle.lc_record.specs.declared.record.Lock.{Lock}
use Rattle.lc_record.specs.declared.record.RangeData.{RangeData}
use Rattle.lc_record.specs.declared.grammar_version.GrammarVersion.{GrammarVersion}
use Rattle.lc_record.specs.declared.grammar_version.GrammarVersion.TheVariants.{First, Second}
use Rattle.lc_record.specs.declared.span.Span.{Span}
use Rattle.lc_record.proofs.WordLemmas.{AreWords-append}
use Rattle.lc_record.proofs.DataLemmas.{length-data_words, AreWords-data_words}

-- lengths

pub length-lock_words : (locks : List Lock) → length (flat_map lock_words locks) ≡ 2 * length locks
length-lock_words [] = refl
length-lock_words (lock ∷ locks) = omega (arith, length-lock_words locks)

pub length-span_words : (version : GrammarVersion) (span : Span) → length (span_words version span) ≡ place_words version
length-span_words First span = refl
length-span_words Second span = refl

-- the words of a range
pub length-range : (version : GrammarVersion) (range : RangeData) → length (range_words version range) ≡ place_words version + data_len (length range.bytes)
length-range version range =
    omega (arith, length-append (span_words version (span_of range)) (data_words range.bytes), length-span_words version (span_of range), length-data_words range.bytes)

-- of several
abbrev pub ranges_len : GrammarVersion → List Span → ℕ
ranges_len version spans = place_words version * length spans + sum_by (λ span. data_len span.len) spans

ranges_len-cons : (version : GrammarVersion) (span : Span) (spans : List Span) → ranges_len version (span ∷ spans) ≡ (place_words version + data_len span.len) + ranges_len version spans
ranges_len-cons First span spans = omega (arith, sum_by-cons (λ (s : Span). data_len s.len) span spans)
ranges_len-cons Second span spans = omega (arith, sum_by-cons (λ (s : Span). data_len s.len) span spans)

ranges_len-nil : (version : GrammarVersion) → ranges_len version [] ≡ 0
ranges_len-nil First = refl
ranges_len-nil Second = refl

pub length-range_words : (version : GrammarVersion) (ranges : List RangeData) → length (flat_map (range_words version) ranges) ≡ ranges_len version (spans_of ranges)
length-range_words version [] = sym (ranges_len-nil version)
length-range_words version (range ∷ ranges) =
    omega (
      arith,
      length-append (range_words version range) (flat_map (range_words version) ranges),
      length-range version range,
      length-range_words version ranges,
      ranges_len-cons version (span_of range) (spans_of ranges),
    )

-- each range, at its place among others, leaves room for itself
pub range_room : (version : GrammarVersion) (ranges : List RangeData) (i : ℕ) (range : RangeData) → i < length ranges → range ≡ get_or ranges i range
    → length (flat_map (range_words version) (take i ranges)) + (place_words version + data_len (length range.bytes)) ≤ ranges_len version (spans_of ranges)
range_room version [] i range below is = absurd (omega (arith, below))
range_room version (r ∷ ranges) zero range below is =
    let same : length range.bytes ≡ length r.bytes = ap (λ (x : RangeData). length x.bytes) is in
    omega (arith, same, ranges_len-cons version (span_of r) (spans_of ranges))
range_room version (r ∷ ranges) (suc i) range below is =
    let later = range_room version ranges i range (omega (arith, below)) is in
    omega (
      arith,
      later,
      length-append (range_words version r) (flat_map (range_words version) (take i ranges)),
      length-range version r,
      ranges_len-cons version (span_of r) (spans_of ranges),
    )

-- the spelling of a record begun: its first two words, and these after them
abbrev pub begun : Record → List ℕ → SpellingView
begun r words = record { words = header r ∷ second_word r.node (length r.locks) ∷ words; version = version_of r.ranges; len = record_len r }

-- what is left of its room

pub lock_fits : (r : Record) (front : List Lock) (s : SpellingView) → s ≡ begun r (flat_map lock_words front) → length front < length r.locks → length s.words + 2 ≤ s.len
lock_fits r front s is below =
    let locks = flat_map lock_words front in
    let words : length s.words ≡ 2 + length locks = ap (λ (v : SpellingView). length v.words) is ∙ omega arith in
    let len : s.len ≡ record_len r = ap (λ (v : SpellingView). v.len) is in
    omega (arith, words, len, length-lock_words front)

pub range_fits : (r : Record) (i : ℕ) (range : RangeData) (s : SpellingView)
    → s ≡ begun r (flat_map lock_words r.locks ++ flat_map (range_words (version_of r.ranges)) (take i r.ranges)) → i < length r.ranges → range ≡ get_or r.ranges i range
    → length s.words + place_words s.version + data_len (length range.bytes) ≤ s.len
range_fits r i range s is below at =
    let locks = flat_map lock_words r.locks in
    let ranges = flat_map (range_words (version_of r.ranges)) (take i r.ranges) in
    let words : length s.words ≡ 2 + length (locks ++ ranges) = ap (λ (v : SpellingView). length v.words) is ∙ omega arith in
    let len : s.len ≡ record_len r = ap (λ (v : SpellingView). v.len) is in
    let place : place_words s.version ≡ place_words (version_of r.ranges) = ap (λ (v : SpellingView). place_words v.version) is in
    omega (arith, words, len, place, length-append locks ranges, length-lock_words r.locks, range_room (version_of r.ranges) r.ranges i range below at)

pub last_fits : (r : Record) (i : ℕ) (s : SpellingView)
    → s ≡ begun r (flat_map lock_words r.locks ++ flat_map (range_words (version_of r.ranges)) (take i r.ranges)) → length r.ranges ≤ i → length s.words < s.len
last_fits r i s is all =
    let locks = flat_map lock_words r.locks in
    let ranges = flat_map (range_words (version_of r.ranges)) (take i r.ranges) in
    let words : length s.words ≡ 2 + length (locks ++ ranges) = ap (λ (v : SpellingView). length v.words) is ∙ omega arith in
    let len : s.len ≡ record_len r = ap (λ (v : SpellingView). v.len) is in
    let whole : length ranges ≡ ranges_len (version_of r.ranges) (spans_of r.ranges) =
    ap (λ (l : List RangeData). length (flat_map (range_words (version_of r.ranges)) l)) (take_all i r.ranges all) ∙ length-range_words (version_of r.ranges) r.ranges in
    omega (arith, words, len, length-append locks ranges, length-lock_words r.locks, whole)

-- each record has as many words as its last word says
pub length-spelling : (r : Record) → length (spelling r) ≡ record_len r
length-spelling r =
    let ranges = flat_map (range_words (version_of r.ranges)) r.ranges in
    let parts = flat_map lock_words r.locks ++ ranges in
    omega (
      arith,
      length-append parts (record_len r ∷ []),
      length-append (flat_map lock_words r.locks) ranges,
      length-lock_words r.locks,
      length-range_words (version_of r.ranges) r.ranges,
    )

-- words

pub number_small : (version : GrammarVersion) → (1 ≤ number version) × (number version ≤ 2)
number_small First = (omega arith, omega arith)
number_small Second = (omega arith, omega arith)

lock_words_fit : (locks : List Lock) → AllByRecursion IsLock locks → AreWords (flat_map lock_words locks)
lock_words_fit [] is = tt
lock_words_fit (lock ∷ locks) is = (omega (arith, is.0), (omega (arith, is.0), lock_words_fit locks is.1))

pub segment_small : (locks : List Lock) (segment : ℕ) → AllByRecursion IsLock locks → Locks segment locks → segment ≤ 16
segment_small [] segment is locked = absurd locked
segment_small (lock ∷ locks) segment is locked = elim locked [ inl same ↦ omega (arith, is.0) | inr later ↦ segment_small locks segment is.1 later ]

place_fits : (version : GrammarVersion) (span : Span) → span.segment ≤ 16 → end_of span ≤ 262144 → AreWords (span_words version span)
place_fits First span small within = (omega arith, (omega arith, tt))
place_fits Second span small within = (omega arith, (omega arith, (omega arith, tt)))

range_words_fit : (version : GrammarVersion) (ranges : List RangeData) → AllByRecursion IsRange ranges → ((segment : ℕ) → Writes segment ranges → segment ≤ 16) → AreWords (flat_map (range_words version) ranges)
range_words_fit version [] is small = tt
range_words_fit version (range ∷ ranges) is small =
    let segment : range.segment ≤ 16 = small range.segment (inl refl) in
    let rest = range_words_fit version ranges is.1 (λ s written. small s (inr written)) in
    let first = AreWords-append (span_words version (span_of range)) (data_words range.bytes) (place_fits version (span_of range) segment is.0.1) (AreWords-data_words range.bytes is.0.2) in
    AreWords-append (range_words version range) (flat_map (range_words version) ranges) first rest

-- the words of each record fit
pub AreWords-spelling : (r : Record) → IsCanonical r → record_len r ≤ 4096 → AreWords (spelling r)
AreWords-spelling r is short =
    let version = version_of r.ranges in
    let ranges = range_words_fit version r.ranges is.each_range (λ s written. segment_small r.locks s is.each_lock ((is.same_segments s).1 written)) in
    let parts = AreWords-append (flat_map lock_words r.locks) (flat_map (range_words version) r.ranges) (lock_words_fit r.locks is.each_lock) ranges in (
      omega (arith, number_small version, is.few_ranges, short),
      (omega (arith, is.node, is.few_locks), AreWords-append (flat_map lock_words r.locks ++ flat_map (range_words version) r.ranges) (record_len r ∷ []) parts (omega (arith, short), tt)),
    )

-- the low byte of the first word is the gate

gate_open : (r : Record) → header r % 256 ≡ 165
gate_open r = omega arith

-- what the first word says

pub word_gate : (version : GrammarVersion) (ranges len : ℕ) → first_word version ranges len % 256 ≡ 165
word_gate version ranges len = omega arith

pub word_version : (version : GrammarVersion) (ranges len : ℕ) → first_word version ranges len / 2 ^ 8 % 2 ^ 8 ≡ number version
word_version version ranges len = omega (arith, number_small version)

pub word_ranges : (version : GrammarVersion) (ranges len : ℕ) → ranges ≤ 64 → first_word version ranges len / 2 ^ 16 % 2 ^ 16 ≡ ranges
word_ranges version ranges len few = omega (arith, number_small version)

pub word_len : (version : GrammarVersion) (ranges len : ℕ) → ranges ≤ 64 → first_word version ranges len / 2 ^ 32 ≡ len
word_len version ranges len few = omega (arith, number_small version)

-- where the gate is closed, or there is no word, no record begins

pub closed_begins_none : (w : ℕ) (ws : List ℕ) → w % 256 ≢ 165 → BeginsNoRecord (w ∷ ws)
closed_begins_none w ws closed r front rest is e =
    let whole : w ∷ ws ≡ spelling r ++ rest = e ∙ ap (λ (l : List ℕ). l ++ rest) is.spelled in
    let same : w ≡ header r = cc in
    closed (ap (λ (n : ℕ). n % 256) same ∙ gate_open r)

pub nothing_begins_none : BeginsNoRecord []
nothing_begins_none r front rest is e =
    let whole : [] ≡ spelling r ++ rest = e ∙ ap (λ (l : List ℕ). l ++ rest) is.spelled in
    absurd cc

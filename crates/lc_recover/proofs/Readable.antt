-- A store of whole records that lie within its segments can be read.
use Rattle.std.proofs.Common.{◌≡◌, ℕ, ◌+◌, ◌-◌, ◌*◌, ◌<◌, ◌≤◌, Bool, ◌==◌, Option, Some, None, List, [], ◌∷◌, length, All, Contains, refl, sym, ◌∙◌, ap, subst, arith, inl, inr, eqb-true, add-one}
use Rattle.std.specs.Prelude.{slice_get, slice_index_or, is_some, IsTrue, if◌then◌else◌}
use Rattle.std.specs.List.{AllByRecursion}
use Rattle.std.specs.Option.{unwrap_or, option_or}
use Rattle.std.proofs.lemmas.Bool.{cases_Bool, cases_lt}
use Rattle.std.proofs.lemmas.List.Elements.{All-weaker, All-contains, All-contains_itself, All-from_recursion, Contains-append_right}
use Rattle.std.proofs.lemmas.Option.{slice_get_within}
use Rattle.lc_record.specs.Content.{segment_of}
use Rattle.lc_record.specs.Geometry.{segment_len}
use Rattle.lc_record.specs.GrammarVersion.{end_of}
use Rattle.lc_record.specs.Newest.{number_or_zero, byte_in, byte_of}
use Rattle.lc_record.specs.Part.{number_in}
use Rattle.lc_record.specs.Record.{span_of, IsRange, IsCanonical, Locks, Writes}
use Rattle.lc_record.specs.declared.geometry.Geometry.{Geometry}
use Rattle.lc_record.specs.declared.record.Lock.{Lock}
use Rattle.lc_record.specs.declared.record.RangeData.{RangeData}
use Rattle.lc_record.specs.declared.record.Record.{Record}
use Rattle.lc_record.proofs.PuttingLemmas.{byte_from-behind, byte_in-same}
use Rattle.lc_record.proofs.ListLemmas.{slice_get_some as get-some}
use Rattle.lc_log.specs.LogText.{IsWhole}
use Rattle.lc_model.specs.Merge.{Page, StoreText, all_records, IsOutside, AreWithin}
use Rattle.lc_model.specs.Recovered.{HasByte, IsReadable}
use Rattle.lc_model.proofs.Visible.{all-logs}
use Rattle.lc_recover.proofs.Images.{get-segment, shape-of}
use Rattle.lc_recover.specs.RecoveryPhase.{AreTexts}

-- A byte of a record

some_first : {A : Type 0} (x y : Option A) → IsTrue (is_some x) → IsTrue (is_some (option_or x y))
some_first None y some = absurd cc
some_first (Some x) y some = some

some_second : {A : Type 0} (x y : Option A) → IsTrue (is_some y) → IsTrue (is_some (option_or x y))
some_second None y some = some
some_second (Some x) y some = refl

-- a number above 0 is under some lock
has_lock : (segment : ℕ) (locks : List Lock) → 0 < number_or_zero segment locks → Locks segment locks
has_lock segment [] some = absurd (omega (arith, some))
has_lock segment (lock ∷ locks) some =
    elim (cases_Bool (lock.segment == segment)) [
      | inl same ↦ inl (eqb-true lock.segment segment same)
      | inr other ↦ inr (has_lock segment locks (subst (λ (b : Bool). 0 < unwrap_or (if b then Some lock.seq else number_in segment locks) 0) other some))
    ]

-- a range has its first byte
first_byte : (segment : ℕ) (range : RangeData) → IsRange range → range.segment ≡ segment → IsTrue (is_some (byte_in segment range.offset range))
first_byte segment range is same =
    let byte = get-some range.bytes 0 (omega (arith, is.0)) in
    ap (λ (b : Option ℕ). is_some b) (byte_in-same segment range.offset range same ∙ byte_from-behind range.offset range.bytes range.offset 0 (omega arith) ∙ byte.1)

written_byte : (segment n : ℕ) (ranges : List RangeData) → AllByRecursion IsRange ranges
    → ((range : RangeData) → Contains ranges range → range.segment ≡ segment → end_of (span_of range) ≤ n)
    → Writes segment ranges → (place : ℕ) × (place < n) × IsTrue (is_some (byte_of segment place ranges))
written_byte segment n [] are within written = absurd written
written_byte segment n (range ∷ ranges) are within written =
    elim written [
      | inl here ↦
          let end : range.offset + length range.bytes ≤ n = within range (0, omega arith, refl) here in (
            range.offset,
            omega (arith, end, are.0.0),
            some_second (byte_of segment range.offset ranges) (byte_in segment range.offset range) (first_byte segment range are.0 here),
          )
      | inr behind ↦
          let one = written_byte segment n ranges are.1 (λ other has same. within other (Contains-append_right (range ∷ []) ranges other has) same) behind in
          (one.0, one.1, some_first (byte_of segment one.0 ranges) (byte_in segment one.0 range) one.2)
    ]

-- a whole record within the store has a byte of each segment that it has a number of
record_byte : (store : StoreText) (segment n : ℕ) (r : Record) → IsCanonical r → (IsOutside store r → ⊥) → length (segment_of segment store.pages) * 256 ≡ n → HasByte segment n r
record_byte store segment n r canonical inside len = λ some.
    written_byte segment n r.ranges canonical.each_range
    (λ range has same.
    let own : length (segment_of range.segment store.pages) * 256 ≡ n = ap (λ (s : ℕ). length (segment_of s store.pages) * 256) same ∙ len in
    elim (cases_lt (length (segment_of range.segment store.pages) * 256) (end_of (span_of range))) [
      | inl outside ↦ absurd (inside (inr (range, has, outside)))
      | inr not_outside ↦ omega (arith, not_outside, own)
    ])
    ((canonical.same_segments segment).0 (has_lock segment r.locks some))

-- The store

module _ (g : Geometry) (logs : List (List ℕ)) (store : StoreText) (texts : AreTexts g logs store) (within : AreWithin store) where
  bytes_on_pages : (segment n : ℕ) → length (segment_of segment store.pages) * 256 ≡ n → All (HasByte segment n) (all_records store)
  bytes_on_pages segment n len =
      all-logs (HasByte segment n) store.logs (λ log less.
      let records : List Record = slice_index_or store.logs log [] in
      let whole : All IsWhole records = All-from_recursion IsWhole records (texts.texts log (omega (arith, less, texts.same_count))).whole in
      All-weaker (Contains records) (HasByte segment n)
      (λ r has. record_byte store segment n r (All-contains IsWhole records r whole has).canonical (λ outside. within log (r, has, outside)) len)
      records (All-contains_itself records))

-- pages of the geometry and whole records within them are a store that can be read
pub readable : (g : Geometry) (logs : List (List ℕ)) (store : StoreText) → AreTexts g logs store → AreWithin store → length store.pages ≡ g.segments
    → ((s : ℕ) → s < g.segments → length (segment_of (s + 1) store.pages) ≡ g.pages)
    → ((segment page : ℕ) (text : Page) → slice_get (segment_of segment store.pages) page ≡ Some text → length text.bytes ≡ 256)
    → IsReadable g store
readable g logs store texts within count shapes long = record {
  shape = shape-of g.segments g.pages store.pages count (λ s pages is.
      ap (λ (ps : List Page). length ps) (sym (get-segment store.pages s pages is))
      ∙ ap (λ (segment : ℕ). length (segment_of segment store.pages)) (sym (add-one s))
      ∙ shapes s (omega (arith, slice_get_within store.pages s pages is, count)));
  long = long;
  on_pages = λ segment some last.
      let before : segment - 1 < g.segments = omega (arith, some, last) in
      let next : segment ≡ (segment - 1) + 1 = omega (arith, some) in
      let len : length (segment_of segment store.pages) ≡ g.pages = ap (λ (s : ℕ). length (segment_of s store.pages)) next ∙ shapes (segment - 1) before in
      bytes_on_pages g logs store texts within segment (segment_len g) (ap (λ (n : ℕ). n * 256) len);
}

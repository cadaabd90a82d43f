-- The ranges of a record, each with the place of its bytes.
use Rattle.std.proofs.Common.{◌≡◌, ◌≢◌, ℕ, zero, suc, ◌+◌, ◌-◌, ◌*◌, ◌^◌, ◌≤◌, leb, ltb, ◌&&◌, List, [], ◌∷◌, ◌++◌, length, map, take, drop, Some, None, refl, sym, ap, ap₂, subst, ◌∙◌, arith, take-append-drop}
use Rattle.std.specs.Prelude.{slice_get}
use Rattle.std.proofs.lemmas.Bool.{and_parts, leb-true}
use Rattle.std.proofs.lemmas.List.{drop-drop, length-take-le, take-append-le}
use Rattle.std.proofs.lemmas.Option.{cond_some, same_Some}
use Rattle.lc_record.specs.Words.{bytes_of}
use Rattle.lc_record.specs.GrammarVersion.{end_of, place_words}
use Rattle.lc_record.specs.Layout.{data_len}
use Rattle.lc_record.specs.Record.{record_len, span_of, version_of, IsRecord}
use Rattle.lc_record.specs.Codec.{BeginsWith}
use Rattle.lc_record.specs.Reading.{◌>>=◌, many, packed_at, apart_at, place_at, has_room, is_padded, range_of, filled, range_at, ranges_at}
use Rattle.lc_record.specs.Spans.{placed_from, placed_spans, range_in, spans_in}
use Rattle.lc_record.specs.declared.grammar_version.GrammarVersion.{GrammarVersion}
use Rattle.lc_record.specs.declared.grammar_version.GrammarVersion.TheVariants.{First, Second}
use Rattle.lc_record.specs.declared.placed_span.PlacedSpan.{PlacedSpan}
use Rattle.lc_record.specs.declared.span.Span.{Span}
use Rattle.lc_record.specs.declared.record.Record.{Record}
use Rattle.lc_record.specs.declared.record.RangeData.{RangeData}
use Rattle.lc_record.proofs.WordLemmas.{bytes_of-append, length-bytes_of}
use Rattle.lc_record.proofs.ReadingLemmas.{bind_some, three}
use Rattle.lc_record.proofs.LoopLemmas.{range_span}
use Rattle.lc_record.proofs.RecordLemmas.{ranges_stand}

-- One after another

pub spans_end : (version : GrammarVersion) (words : List ℕ) (place n : ℕ) → n ≡ 0 → spans_in version words place n ≡ []
unfolding spans_in
spans_end version words place n e = rw e refl

pub spans_none : (version : GrammarVersion) (words : List ℕ) (place n : ℕ) → place_at version (drop place words) ≡ None → spans_in version words place n ≡ []
unfolding spans_in
spans_none version words place zero e = refl
spans_none version words place (suc n) e = rw e refl

pub none_there : (version : GrammarVersion) → place_at version [] ≡ None
unfolding packed_at apart_at
none_there First = refl
none_there Second = refl

pub spans_next : (version : GrammarVersion) (words : List ℕ) (place n : ℕ) (x : Span × List ℕ) → n ≢ 0 → place_at version (drop place words) ≡ Some x
    → spans_in version words place n ≡ record { span = x.0; place = place + place_words version } ∷ spans_in version words (place + place_words version + data_len x.0.len) (n - 1)
unfolding spans_in
spans_next version words place zero x some e = absurd (some refl)
spans_next version words place (suc n) x some e = let same : n ≡ suc n - 1 = omega arith in
    rw e (ap (λ (k : ℕ). record { span = x.0; place = place + place_words version } ∷ spans_in version words (place + place_words version + data_len x.0.len) k) same)

-- What is read of a range

-- after its header
place_behind : (version : GrammarVersion) (words : List ℕ) (x : Span × List ℕ) → place_at version words ≡ Some x → x.1 ≡ drop (place_words version) words
unfolding packed_at apart_at
place_behind First [] x e = absurd cc
place_behind First (a ∷ []) x e = absurd cc
place_behind First (a ∷ b ∷ rest) x e = ap (λ (y : Span × List ℕ). y.1) (sym (same_Some _ _ e))
place_behind Second [] x e = absurd cc
place_behind Second (a ∷ []) x e = absurd cc
place_behind Second (a ∷ b ∷ []) x e = absurd cc
place_behind Second (a ∷ b ∷ c ∷ rest) x e =
    let made : Span × List ℕ = (record { segment = a; offset = b; len = c }, rest) in
    let taken = cond_some (ltb a (2 ^ 32) && ltb b (2 ^ 32)) made x e in
    ap (λ (y : Span × List ℕ). y.1) (sym taken.1)

-- its bytes are the first of those that stand there
record Filled (span : Span) (words : List ℕ) (range : RangeData) (rest : List ℕ) : Type 0 where
  pub is : range ≡ range_of span words
  pub whole : span.len ≤ 8 * length words
  pub behind : rest ≡ drop (data_len span.len) words

filled_is : (span : Span) (words : List ℕ) (x : RangeData × List ℕ) → filled span words ≡ Some x → Filled span words x.0 x.1
filled_is span words x e =
    let len = span.len in
    let front = take (data_len len) words in
    let made : RangeData × List ℕ = (range_of span front, drop (data_len len) words) in
    let taken = cond_some (has_room span words && is_padded len front) made x e in
    let both = and_parts (has_room span words) (is_padded len front) taken.0 in
    let t = three (leb 1 len) (leb (end_of span) 262144) (leb (data_len len) (length words)) both.0 in
    let there : data_len len ≤ length words = leb-true _ _ t.2 in
    let long : length (bytes_of front) ≡ 8 * data_len len = omega (arith, length-bytes_of front, length-take-le (data_len len) words there) in
    let split : bytes_of words ≡ bytes_of front ++ bytes_of (drop (data_len len) words) = ap bytes_of (sym (take-append-drop (data_len len) words)) ∙ bytes_of-append front (drop (data_len len) words) in
    let same : take len (bytes_of front) ≡ take len (bytes_of words) = sym (ap (take len) split ∙ take-append-le len (bytes_of front) (bytes_of (drop (data_len len) words)) (omega (arith, long))) in
    subst (λ (y : RangeData × List ℕ). Filled span words y.0 y.1) taken.1 (record {
      is = ap (λ (b : List ℕ). record { segment = span.segment; offset = span.offset; bytes = b }) same;
      whole = omega (arith, there);
      behind = refl;
    })

-- a range that stands here
record RangeStands (version : GrammarVersion) (words : List ℕ) (place : ℕ) (range : RangeData) (rest : List ℕ) : Type 0 where
  pub bytes : List ℕ
  pub read : place_at version (drop place words) ≡ Some (span_of range, bytes)
  pub is : range_in words (record { span = span_of range; place = place + place_words version }) ≡ range
  pub behind : rest ≡ drop (place + place_words version + data_len (length range.bytes)) words

range_stands : (version : GrammarVersion) (words : List ℕ) (place : ℕ) (x : RangeData × List ℕ) → range_at version (drop place words) ≡ Some x → RangeStands version words place x.0 x.1
unfolding range_at
range_stands version words place x e =
    let s = bind_some (place_at version (drop place words)) (λ y. filled y.0 y.1) x e in
    let span : Span = s.0.0 in
    let start = place + place_words version in
    let its : Filled span s.0.1 x.0 x.1 = filled_is span s.0.1 x s.2 in
    let at : s.0.1 ≡ drop start words = place_behind version (drop place words) s.0 s.1 ∙ drop-drop (place_words version) place words in
    let same : span_of x.0 ≡ span = ap span_of its.is ∙ range_span span s.0.1 its.whole in
    record {
      bytes = s.0.1;
      read = s.1 ∙ ap (λ (y : Span). Some (y, s.0.1)) (sym same);
      is = ap₂ range_of same (sym at) ∙ sym its.is;
      behind = its.behind
          ∙ ap (drop (data_len span.len)) at
          ∙ drop-drop (data_len span.len) start words
          ∙ ap (λ (y : Span). drop (start + data_len y.len) words) (sym same);
    }

-- All that are read

pub record SpansStand (version : GrammarVersion) (words : List ℕ) (place n : ℕ) (ranges : List RangeData) : Type 0 where
  pub spans : spans_in version words place n ≡ placed_from version place ranges
  pub given : map (range_in words) (placed_from version place ranges) ≡ ranges

one_more : (version : GrammarVersion) (words : List ℕ) (place n : ℕ) (range : RangeData) (rest : List ℕ) (ranges : List RangeData) → RangeStands version words place range rest
    → SpansStand version words (place + place_words version + data_len (length range.bytes)) n ranges → SpansStand version words place (suc n) (range ∷ ranges)
unfolding spans_in
one_more version words place n range rest ranges first later =
    let placed : PlacedSpan = record { span = span_of range; place = place + place_words version } in
    record {
      spans = rw first.read (ap (λ (l : List PlacedSpan). placed ∷ l) later.spans);
      given = ap₂ (λ (r : RangeData) (l : List RangeData). r ∷ l) first.is later.given;
    }

pub spans_stand : (version : GrammarVersion) (words : List ℕ) (place n : ℕ) (x : List RangeData × List ℕ) → ranges_at version n (drop place words) ≡ Some x → SpansStand version words place n x.0
unfolding many spans_in
spans_stand version words place zero x e =
    let same : ◌≡◌ {A = List RangeData × List ℕ} ([], drop place words) x = same_Some _ _ e in
    subst (λ (y : List RangeData × List ℕ). SpansStand version words place 0 y.0) same (record { spans = refl; given = refl })
spans_stand version words place (suc n) x e =
    let a = bind_some (range_at version (drop place words)) (λ range. many (range_at version) n range.1 >>= λ others. Some (range.0 ∷ others.0, others.1)) x e in
    let b = bind_some (many (range_at version) n a.0.1) (λ others. Some (a.0.0 ∷ others.0, others.1)) x a.2 in
    let first : RangeStands version words place a.0.0 a.0.1 = range_stands version words place a.0 a.1 in
    let next = place + place_words version + data_len (length a.0.0.bytes) in
    let later : SpansStand version words next n b.0.0 = spans_stand version words next n b.0 (ap (ranges_at version n) (sym first.behind) ∙ b.1) in
    let made : List RangeData × List ℕ = (a.0.0 ∷ b.0.0, b.0.1) in
    subst (λ (y : List RangeData × List ℕ). SpansStand version words place (suc n) y.0) (same_Some made x b.2) (one_more version words place n a.0.0 a.0.1 b.0.0 first later)

-- those of a record, whatever follows it
pub record_spans : (r : Record) (words rest : List ℕ) → IsRecord r words → SpansStand (version_of r.ranges) (words ++ rest) (2 + 2 * length r.locks) (length r.ranges) r.ranges
record_spans r words rest is = spans_stand (version_of r.ranges) (words ++ rest) (2 + 2 * length r.locks) (length r.ranges) (r.ranges, record_len r ∷ rest) (ranges_stand r words rest is)

pub give_ranges : (r : Record) (words : List ℕ) (len : ℕ) → BeginsWith words r len → map (range_in words) (placed_spans r) ≡ r.ranges
give_ranges r words len begins =
    subst (λ (l : List ℕ). map (range_in l) (placed_spans r) ≡ r.ranges) (take-append-drop len words) (record_spans r (take len words) (drop len words) begins.whole).given

-- A walk

-- the one that comes next is of the range at the same index
pub span_at : (version : GrammarVersion) (place : ℕ) (ranges : List RangeData) (i : ℕ) (x : PlacedSpan) (left : List PlacedSpan) → drop i (placed_from version place ranges) ≡ x ∷ left
    → (range : RangeData) × (slice_get ranges i ≡ Some range) × (x.span ≡ span_of range) × (drop (i + 1) (placed_from version place ranges) ≡ left)
span_at version place [] zero x left e = absurd cc
span_at version place [] (suc i) x left e = absurd cc
span_at version place (range ∷ ranges) zero x left e =
    let first : record { span = span_of range; place = place + place_words version } ≡ x = same_Some _ _ (ap (λ (l : List PlacedSpan). slice_get l 0) e) in
    (range, refl, ap (λ (y : PlacedSpan). y.span) (sym first), ap (drop 1) e)
span_at version place (range ∷ ranges) (suc i) x left e =
    let its = span_at version (place + place_words version + data_len (length range.bytes)) ranges i x left e in
    let next : suc i + 1 ≡ suc (i + 1) = omega arith in
    (its.0, its.1, its.2, ap (λ (n : ℕ). drop n (placed_from version place (range ∷ ranges))) next ∙ its.3)

-- after the last
pub no_span : (version : GrammarVersion) (place : ℕ) (ranges : List RangeData) (i : ℕ) → drop i (placed_from version place ranges) ≡ [] → length ranges ≤ i
no_span version place [] i e = omega arith
no_span version place (range ∷ ranges) zero e = absurd cc
no_span version place (range ∷ ranges) (suc i) e = let rest = no_span version (place + place_words version + data_len (length range.bytes)) ranges i e in omega (arith, rest)

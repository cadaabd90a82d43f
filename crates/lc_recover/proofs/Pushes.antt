-- What a push adds, and which ranges are to be put on which pages.
use Rattle.std.proofs.Common.{◌≡◌, ℕ, zero, suc, ◌+◌, ◌-◌, ◌*◌, ◌<◌, ◌≤◌, ltb, List, [], ◌∷◌, ◌++◌, length, drop, Contains, Option, Some, is_some, arith, refl, sym, ◌∙◌, ap, subst, inl, inr}
use Rattle.std.specs.Prelude.{slice_get}
use Rattle.std.specs.Option.{unwrap_or}
use Rattle.std.specs.List.{AllByRecursion}
use Rattle.std.proofs.Math.Seq.{drop-cons}
use Rattle.std.proofs.lemmas.Bool.{cases_lt, and_parts, eq-eqb, ne_eqb, ltb-true}
use Rattle.std.proofs.lemmas.Option.{none-some, same_Some, slice_get_within, slice_get-get_or, get_or_from_slice_get}
use Rattle.std.proofs.lemmas.List.Elements.{All-contains, All-from_recursion, Contains-append_cases, Contains-append_left, Contains-append_right}
use Rattle.lc_record.specs.Content.{segment_of}
use Rattle.lc_record.specs.GrammarVersion.{end_of, place_words}
use Rattle.lc_record.specs.Layout.{data_len}
use Rattle.lc_record.specs.Newest.{number_or_zero, byte_of}
use Rattle.lc_record.specs.Part.{number_in}
use Rattle.lc_record.specs.Record.{span_of, version_of, IsRange}
use Rattle.lc_record.specs.Spans.{placed_from, placed_spans}
use Rattle.lc_record.specs.declared.record.Lock.{Lock}
use Rattle.lc_record.specs.declared.record.RangeData.{RangeData}
use Rattle.lc_record.specs.declared.grammar_version.GrammarVersion.{GrammarVersion}
use Rattle.lc_record.specs.declared.placed_span.PlacedSpan.{PlacedSpan}
use Rattle.lc_record.specs.declared.span.Span.{Span}
use Rattle.lc_record.proofs.ListLemmas.{Contains-slice_get as contains-at}
use Rattle.lc_page.specs.PageVector.{entry_at}
use Rattle.lc_model.specs.Merge.{Page}
use Rattle.lc_recover.specs.Pages.{kept_page, kept_pages}
use Rattle.lc_recover.specs.Changes.{PlacedRecord, Touches, Adds, IsOnRange, IsOf, HasOf, Covers, AreOf, change_on, change_under}
use Rattle.lc_recover.specs.declared.redo_range.RedoRange.{RedoRange}
use Rattle.lc_recover.specs.declared.segment_pages.SegmentPages.{SegmentPages}
use Rattle.lc_recover.proofs.Walks.{length-kept}
use Rattle.lc_recover.proofs.Counts.{kept-at, contains-cons}
use Rattle.lc_recover.proofs.RangeBytes.{byte_in-known, byte_of-known}

-- The number of a lock

lock-first : (locks : List Lock) (i : ℕ) (lock : Lock) → slice_get locks i ≡ Some lock → drop i locks ≡ lock ∷ drop (suc i) locks
lock-first locks i lock at = drop-cons locks i lock (slice_get_within locks i lock at) ∙ ap (λ (l : Lock). l ∷ drop (suc i) locks) (get_or_from_slice_get locks i lock lock at)

pub number-found : (segment : ℕ) (locks : List Lock) (i : ℕ) (lock : Lock) → slice_get locks i ≡ Some lock → lock.segment ≡ segment
    → number_in segment locks ≡ number_in segment (drop i locks) → lock.seq ≡ number_or_zero segment locks
number-found segment locks i lock at own so_far =
    let is : number_in segment (lock ∷ drop (suc i) locks) ≡ Some lock.seq = rw (eq-eqb lock.segment segment own) refl in
    sym (ap (λ (o : Option ℕ). unwrap_or o 0) (so_far ∙ ap (number_in segment) (lock-first locks i lock at) ∙ is))

pub number-next : (segment : ℕ) (locks : List Lock) (i : ℕ) (lock : Lock) → slice_get locks i ≡ Some lock → (lock.segment ≡ segment → ⊥)
    → number_in segment locks ≡ number_in segment (drop i locks) → number_in segment locks ≡ number_in segment (drop (i + 1) locks)
number-next segment locks i lock at other so_far =
    let is : number_in segment (lock ∷ drop (suc i) locks) ≡ number_in segment (drop (suc i) locks) = rw (ne_eqb lock.segment segment other) refl in
    let next : suc i ≡ i + 1 = omega arith in
    so_far ∙ ap (number_in segment) (lock-first locks i lock at) ∙ is ∙ ap (λ (n : ℕ). number_in segment (drop n locks)) next

-- What a push adds

pub adds-more : (Such Other : RedoRange → Type 0) (xs ys zs : List RedoRange) → Adds Such xs ys → Adds Other ys zs → ((c : RedoRange) → Other c → Such c) → Adds Such xs zs
adds-more Such Other xs ys zs first second such = record {
  kept = λ c there. second.kept c (first.kept c there);
  only = λ c there. elim (second.only c there) [
    | inl before ↦ first.only c before
    | inr new ↦ inr (such c new)
  ];
}

-- Ranges

-- the pages under the ranges before this one are covered
abbrev pub CoversSpans : List (List Page) → PlacedRecord → ℕ → List RedoRange → Type 0
CoversSpans pages s i changes =
    (k : ℕ) (placed : PlacedSpan) → k < i → slice_get (placed_spans s.its) k ≡ Some placed →
    (page : ℕ) (text : Page) → slice_get (segment_of placed.span.segment pages) page ≡ Some text → Touches placed.span page →
    text.sequence < number_or_zero placed.span.segment s.its.locks → Contains changes (change_on s placed page)

pub range-some : (r : List RangeData) (k : ℕ) (range : RangeData) → AllByRecursion IsRange r → slice_get r k ≡ Some range → 1 ≤ length range.bytes
range-some r k range each at = (All-contains IsRange r range (All-from_recursion IsRange r each) (contains-at r k range at)).0

pub range-ends : (r : List RangeData) (k : ℕ) (range : RangeData) → AllByRecursion IsRange r → slice_get r k ≡ Some range → end_of (span_of range) ≤ 262144
range-ends r k range each at = (All-contains IsRange r range (All-from_recursion IsRange r each) (contains-at r k range at)).1

-- a place on the page of which the range has the byte
touched : (span : Span) (page : ℕ) → 1 ≤ span.len → Touches span page → (offset : ℕ) × (offset < 256) × (span.offset ≤ page * 256 + offset) × (page * 256 + offset < span.offset + span.len)
touched span page some touches = elim (cases_lt (page * 256) span.offset) [
  | inl before ↦ (span.offset - page * 256, omega (arith, touches.0), omega arith, omega (arith, some))
  | inr after ↦ (0, omega arith, omega (arith, after), omega (arith, touches.1))
]

page-there : (s : SegmentPages) (page : ℕ) → page < length s.texts → slice_get (kept_pages s) page ≡ Some (kept_page s page)
page-there s page h =
    slice_get-get_or (kept_pages s) page (kept_page s page) (omega (arith, length-kept s))
    ∙ ap Some (kept-at s page (kept_page s page) h)

page-known : (s : SegmentPages) (page : ℕ) (text : Page) → slice_get (kept_pages s) page ≡ Some text → (page < length s.texts) × (text ≡ kept_page s page)
page-known s page text at =
    let inside : page < length s.texts = omega (arith, slice_get_within (kept_pages s) page text at, length-kept s) in
    (inside, same_Some text (kept_page s page) (sym at ∙ page-there s page inside))

of-span : (pages : List (List Page)) (s : PlacedRecord) (k : ℕ) (placed : PlacedSpan) (its : SegmentPages) (seq : ℕ) (c : RedoRange) → slice_get (placed_spans s.its) k ≡ Some placed → 1 ≤ placed.span.len
    → segment_of placed.span.segment pages ≡ kept_pages its → seq ≡ number_or_zero placed.span.segment s.its.locks
    → IsOnRange (change_under seq s placed 0) placed.span its.texts c → IsOf pages s c
of-span pages s k placed its seq c at some same seq_is on =
    let place = touched placed.span on.number some on.touches in
    subst (λ (x : RedoRange). IsOf pages s x) (sym on.is) (record {
      placed = placed;
      its = contains-at (placed_spans s.its) k placed at;
      is = ap (λ (n : ℕ). change_under n s placed on.number) seq_is;
      text = kept_page its on.number;
      page = ap (λ (l : List Page). slice_get l on.number) same ∙ page-there its on.number on.within;
      newer = on.newer;
      offset = place.0;
      on_page = place.1;
      has = (place.2, place.3);
    })

-- one range more is covered
pub covers-more : (pages : List (List Page)) (s : PlacedRecord) (i : ℕ) (placed : PlacedSpan) (before after : List RedoRange) → slice_get (placed_spans s.its) i ≡ Some placed
    → ((c : RedoRange) → Contains before c → Contains after c) → CoversSpans pages s i before
    → ((page : ℕ) (text : Page) → slice_get (segment_of placed.span.segment pages) page ≡ Some text → Touches placed.span page →
    text.sequence < number_or_zero placed.span.segment s.its.locks → Contains after (change_on s placed page)) → CoversSpans pages s (i + 1) after
covers-more pages s i placed before after at kept earlier new = λ k its k_in its_at page text is touches less. elim (cases_lt k i) [
  | inl early ↦ kept (change_on s its page) (earlier k its early its_at page text is touches less)
  | inr late ↦
      let same_place : i ≡ k = omega (arith, late) in
      let same : placed ≡ its = same_Some placed its (sym at ∙ ap (slice_get (placed_spans s.its)) same_place ∙ its_at) in
      let P : PlacedSpan → Type 0 = λ (x : PlacedSpan). slice_get (segment_of x.span.segment pages) page ≡ Some text → Touches x.span page → text.sequence < number_or_zero x.span.segment s.its.locks → Contains after (change_on s x page) in
      subst P same (new page text) is touches less
]

-- what a range adds covers its pages
covers-span : (pages : List (List Page)) (s : PlacedRecord) (placed : PlacedSpan) (its : SegmentPages) (seq : ℕ) (after : List RedoRange) → segment_of placed.span.segment pages ≡ kept_pages its
    → seq ≡ number_or_zero placed.span.segment s.its.locks
    → ((page : ℕ) → page < length its.texts → Touches placed.span page → (entry_at its.texts page).stable < seq → Contains after (change_under seq s placed page))
    → (page : ℕ) (text : Page) → slice_get (segment_of placed.span.segment pages) page ≡ Some text → Touches placed.span page →
    text.sequence < number_or_zero placed.span.segment s.its.locks → Contains after (change_on s placed page)
covers-span pages s placed its seq after same seq_is new page text at touches less =
    let known = page-known its page text (sym (ap (λ (l : List Page). slice_get l page) same) ∙ at) in
    let newer : (entry_at its.texts page).stable < seq = omega (arith, less, ap (λ (p : Page). p.sequence) known.1, seq_is) in
    subst (λ (n : ℕ). Contains after (change_under n s placed page)) seq_is (new page known.0 touches newer)

-- where there is no such segment there is no page
pub covers-nothing : (pages : List (List Page)) (s : PlacedRecord) (placed : PlacedSpan) (after : List RedoRange) → segment_of placed.span.segment pages ≡ []
    → (page : ℕ) (text : Page) → slice_get (segment_of placed.span.segment pages) page ≡ Some text → Touches placed.span page →
    text.sequence < number_or_zero placed.span.segment s.its.locks → Contains after (change_on s placed page)
covers-nothing pages s placed after none page text at touches less = absurd (none-some text (sym (ap (λ (l : List Page). slice_get l page) none) ∙ at))

-- the place of a range
placed-at : (version : GrammarVersion) (place : ℕ) (ranges : List RangeData) (k : ℕ) (range : RangeData) → slice_get ranges k ≡ Some range
    → (placed : PlacedSpan) × (slice_get (placed_from version place ranges) k ≡ Some placed) × (placed.span ≡ span_of range)
placed-at version place [] k range at = absurd (none-some range at)
placed-at version place (r ∷ rs) zero range at = (record { span = span_of r; place = place + place_words version }, refl, ap span_of (same_Some r range at))
placed-at version place (r ∷ rs) (suc k) range at = placed-at version (place + place_words version + data_len (length r.bytes)) rs k range at

pub covers-all : (pages : List (List Page)) (s : PlacedRecord) (i : ℕ) (changes : List RedoRange) → length s.its.ranges ≤ i → CoversSpans pages s i changes → Covers pages s changes
covers-all pages s i changes all covers = λ segment page offset text at within has.
    let both = and_parts (is_some (byte_of segment (page * 256 + offset) s.its.ranges)) (ltb text.sequence (number_or_zero segment s.its.locks)) has in
    let range = byte_of-known segment (page * 256 + offset) s.its.ranges both.0 in
    let known = byte_in-known segment (page * 256 + offset) range.1 range.3 in
    let found = placed-at (version_of s.its.ranges) (2 + 2 * length s.its.locks) s.its.ranges range.0 range.1 range.2 in
    let placed : PlacedSpan = found.0 in
    let own : found.0.span.segment ≡ segment = ap (λ (x : Span). x.segment) found.2 ∙ known.0 in
    let start : found.0.span.offset ≡ range.1.offset = ap (λ (x : Span). x.offset) found.2 in
    let long : found.0.span.len ≡ length range.1.bytes = ap (λ (x : Span). x.len) found.2 in
    let less : text.sequence < number_or_zero found.0.span.segment s.its.locks = subst (λ (n : ℕ). text.sequence < number_or_zero n s.its.locks) (sym own) (ltb-true text.sequence (number_or_zero segment s.its.locks) both.1) in
    let there : Contains changes (change_on s found.0 page) =
    covers range.0 found.0 (omega (arith, slice_get_within s.its.ranges range.0 range.1 range.2, all)) found.1 page text
    (ap (λ (n : ℕ). slice_get (segment_of n pages) page) own ∙ at)
    (omega (arith, known.1, within, start), omega (arith, known.2, start, long)) less in
    (change_on s found.0 page, there, own, refl, ap (λ (n : ℕ). number_or_zero n s.its.locks) own, (omega (arith, known.1, start), omega (arith, known.2, start, long)))

-- Seats

pub of-more : (pages : List (List Page)) (seats : List PlacedRecord) (s : PlacedRecord) (before after : List RedoRange) → AreOf pages seats before → Adds (IsOf pages s) before after → Covers pages s after → AreOf pages (seats ++ s ∷ []) after
of-more pages seats s before after so_far adds covers = record {
  sound = λ c there. elim (adds.only c there) [
    | inl old ↦ (let its = so_far.sound c old in (its.0, Contains-append_left seats (s ∷ []) its.0 its.1, its.2))
    | inr new ↦ (s, Contains-append_right seats (s ∷ []) s (0, omega arith, refl), new)
  ];
  whole = λ t there. elim (Contains-append_cases seats (s ∷ []) t there) [
    | inl old ↦ λ segment page offset text at within has. (let c = so_far.whole t old segment page offset text at within has in (c.0, adds.kept c.0 c.1, c.2, c.3, c.4, c.5))
    | inr new ↦ (elim (contains-cons s [] t new) [
      | inl same ↦ subst (λ (x : PlacedRecord). Covers pages x after) same covers
      | inr nothing ↦ absurd (omega (arith, nothing.1))
    ])
  ];
}

-- One range

pub record SpanAdded (pages : List (List Page)) (s : PlacedRecord) (i : ℕ) (before after : List RedoRange) : Type 0 where
  pub adds : Adds (IsOf pages s) before after
  pub covers : CoversSpans pages s (i + 1) after

pub span-added : (pages : List (List Page)) (s : PlacedRecord) (i : ℕ) (placed : PlacedSpan) (its : SegmentPages) (seq : ℕ) (before now after : List RedoRange)
    → slice_get (placed_spans s.its) i ≡ Some placed → 1 ≤ placed.span.len → segment_of placed.span.segment pages ≡ kept_pages its → seq ≡ number_or_zero placed.span.segment s.its.locks
    → Adds (IsOf pages s) before now → CoversSpans pages s i now
    → Adds (IsOnRange (change_under seq s placed 0) placed.span its.texts) now after
    → ((page : ℕ) → page < length its.texts → Touches placed.span page → (entry_at its.texts page).stable < seq → Contains after (change_under seq s placed page))
    → SpanAdded pages s i before after
span-added pages s i placed its seq before now after at some same seq_is so_far covered adds covers = record {
  adds = adds-more (IsOf pages s) (IsOnRange (change_under seq s placed 0) placed.span its.texts) before now after so_far adds
      (λ c on. of-span pages s i placed its seq c at some same seq_is on);
  covers = covers-more pages s i placed now after at adds.kept covered (covers-span pages s placed its seq after same seq_is covers);
}

-- where the range is on a page that is older, it is to be put on it
pub span-newer : (pages : List (List Page)) (s : PlacedRecord) (i : ℕ) (placed : PlacedSpan) (its : SegmentPages) (seq : ℕ) → slice_get (placed_spans s.its) i ≡ Some placed → 1 ≤ placed.span.len
    → segment_of placed.span.segment pages ≡ kept_pages its → seq ≡ number_or_zero placed.span.segment s.its.locks
    → ((c : RedoRange) × IsOnRange (change_under seq s placed 0) placed.span its.texts c) → HasOf pages s
span-newer pages s i placed its seq at some same seq_is on = (on.0, of-span pages s i placed its seq on.0 at some same seq_is on.1)

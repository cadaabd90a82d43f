-- The changes of all records, sorted, are the index.
use Rattle.std.proofs.Common.{◌≡◌, ◌⊎◌, ℕ, zero, suc, ◌+◌, ◌*◌, ◌<◌, ◌≤◌, Bool, true, ◌&&◌, ◌==◌, List, [], ◌∷◌, ◌++◌, map, flat_map, length, get_or, take, drop, Contains, Some, IsTrue, Ordering, Less, Equal, Greater, arith, refl, sym, ◌∙◌, ap, ap₂, subst, inl, inr, IsPermutation}
use Rattle.std.specs.Prelude.{slice_get}
use Rattle.std.specs.Ordering.{nat_cmp, is_eq, ordering_then}
use Rattle.std.specs.Cmp.{IsTotalOrder, IsEquivalence}
use Rattle.std.specs.List.{dedup}
use Rattle.std.specs.List.Sorted.{IsStrictlySortedBy, IsSorted}
use Rattle.std.proofs.lemmas.Bool.{cases_order, and_parts, eqb-true, eq-eqb, ne_eqb, lt-ltb, le-ltb}
use Rattle.std.proofs.lemmas.Cmp.{nat_cmp_total, on_total, then_total, nat_eq_equiv, on_equiv, and_equiv}
use Rattle.std.proofs.lemmas.List.{map-append, get_or-map, get_or_default as same-item}
use Rattle.std.proofs.lemmas.List.Elements.{All-from_recursion, Contains-append_cases}
use Rattle.std.proofs.lemmas.List.Kept.{Contains-dedup, Contains-from_dedup, IsStrictlySortedBy-dedup}
use Rattle.std.proofs.lemmas.List.Sorted.{Contains-permutation, IsPermutation-sym}
use Rattle.std.proofs.lemmas.Option.{none-some, same_Some, slice_get-map, slice_get_read}
use Rattle.std.specs.Option.{option_map}
use Rattle.lc_record.specs.Codec.{BeginsWith}
use Rattle.lc_record.specs.GrammarVersion.{place_words}
use Rattle.lc_record.specs.Layout.{data_len}
use Rattle.lc_record.specs.Record.{record_len, span_of, spelling, version_of}
use Rattle.lc_record.specs.Newest.{number_or_zero, has_byte}
use Rattle.lc_record.specs.Spans.{placed_from, placed_spans, range_in}
use Rattle.lc_record.specs.Words.{bytes_of}
use Rattle.lc_record.specs.declared.grammar_version.GrammarVersion.{GrammarVersion}
use Rattle.lc_record.specs.declared.placed_span.PlacedSpan.{PlacedSpan}
use Rattle.lc_record.specs.declared.record.RangeData.{RangeData}
use Rattle.lc_record.specs.declared.span.Span.{Span}
use Rattle.lc_record.proofs.SpansLemmas.{give_ranges}
use Rattle.lc_record.specs.declared.record.Record.{Record}
use Rattle.lc_record.proofs.SpellingLemmas.{length-spelling}
use Rattle.lc_record.proofs.ListLemmas.{Contains-slice_get as contains-at}
use Rattle.lc_log.specs.LogText.{placed}
use Rattle.lc_log.specs.InPlace.{records_in, spans_from}
use Rattle.lc_log.proofs.InPlaceLemmas.{records_text, span_begins}
use Rattle.lc_recover.specs.Pages.{kept_pages}
use Rattle.lc_recover.specs.StoreContents.{IsChange, IsBefore, AreAscending, IsIndex}
use Rattle.lc_recover.specs.Reading.{placed_in, store_of}
use Rattle.lc_recover.specs.Changes.{PlacedRecord, seat, seats_of, seats_from, IsOf, AreOf}
use Rattle.lc_recover.specs.declared.redo_range.RedoRange.{RedoRange}
use Rattle.lc_recover.specs.declared.segment_pages.SegmentPages.{SegmentPages}
use Rattle.lc_recover.proofs.Walks.{placed-records, record-in}
use Rattle.lc_recover.proofs.Counts.{contains-cons}

-- Comparing

-- by what says where the range stands
abbrev pub behind : RedoRange → RedoRange → Ordering
behind a b =
    ordering_then (nat_cmp a.log b.log)
    (ordering_then (nat_cmp a.place b.place) (ordering_then (nat_cmp a.words b.words) (ordering_then (nat_cmp a.offset b.offset) (nat_cmp a.len b.len))))

abbrev pub alike : RedoRange → RedoRange → Bool
alike a b = (a.log == b.log) && ((a.place == b.place) && ((a.words == b.words) && ((a.offset == b.offset) && (a.len == b.len))))

abbrev pub compare : RedoRange → RedoRange → Ordering
compare a b =
    ordering_then (nat_cmp a.segment b.segment)
    (ordering_then (nat_cmp a.page b.page) (ordering_then (nat_cmp a.seq b.seq) (behind a b)))

abbrev pub equal : RedoRange → RedoRange → Bool
equal a b = (a.segment == b.segment) && ((a.page == b.page) && ((a.seq == b.seq) && alike a b))

eq-nat : (a b : ℕ) → (a == b) ≡ is_eq (nat_cmp a b)
eq-nat a b = elim (cases_order a b) [
  | inl same ↦ (let upto : b ≤ a = omega (arith, same) in rw (le-ltb a b upto, eq-eqb a b same) refl)
  | inr apart ↦ (elim apart [
    | inl less ↦ (let differs : a ≡ b → ⊥ = λ e. omega (arith, e, less) in rw (lt-ltb a b less, ne_eqb a b differs) refl)
    | inr more ↦ (let differs : a ≡ b → ⊥ = λ e. omega (arith, e, more) in let upto : b ≤ a = omega (arith, more) in rw (le-ltb a b upto, ne_eqb a b differs) refl)
  ])
]

eq-then : (o p : Ordering) → (is_eq o && is_eq p) ≡ is_eq (ordering_then o p)
eq-then Less p = refl
eq-then Equal p = refl
eq-then Greater p = refl

eq-step : (a b : ℕ) (t : Bool) (o : Ordering) → t ≡ is_eq o → ((a == b) && t) ≡ is_eq (ordering_then (nat_cmp a b) o)
eq-step a b t o same = ap₂ (λ (x y : Bool). x && y) (eq-nat a b) same ∙ eq-then (nat_cmp a b) o

ties : (a b : RedoRange) → equal a b ≡ is_eq (compare a b)
ties a b =
    eq-step a.segment b.segment _ _ (eq-step a.page b.page _ _ (eq-step a.seq b.seq _ _ (eq-step a.log b.log _ _ (eq-step a.place b.place _ _ (eq-step a.words b.words _ _ (eq-step a.offset b.offset _ _ (eq-nat a.len b.len)))))))

same-change : (a b : RedoRange) → equal a b ≡ true → a ≡ b
same-change a b h =
    let one = and_parts (a.segment == b.segment) ((a.page == b.page) && ((a.seq == b.seq) && alike a b)) h in
    let two = and_parts (a.page == b.page) ((a.seq == b.seq) && alike a b) one.1 in
    let three = and_parts (a.seq == b.seq) (alike a b) two.1 in
    let four = and_parts (a.log == b.log) ((a.place == b.place) && ((a.words == b.words) && ((a.offset == b.offset) && (a.len == b.len)))) three.1 in
    let five = and_parts (a.place == b.place) ((a.words == b.words) && ((a.offset == b.offset) && (a.len == b.len))) four.1 in
    let six = and_parts (a.words == b.words) ((a.offset == b.offset) && (a.len == b.len)) five.1 in
    let seven = and_parts (a.offset == b.offset) (a.len == b.len) six.1 in
    ap (λ (n : ℕ). record a { segment = n }) (eqb-true a.segment b.segment one.0)
    ∙ ap (λ (n : ℕ). record a { segment = b.segment; page = n }) (eqb-true a.page b.page two.0)
    ∙ ap (λ (n : ℕ). record a { segment = b.segment; page = b.page; seq = n }) (eqb-true a.seq b.seq three.0)
    ∙ ap (λ (n : ℕ). record b { log = n; place = a.place; words = a.words; offset = a.offset; len = a.len }) (eqb-true a.log b.log four.0)
    ∙ ap (λ (n : ℕ). record b { place = n; words = a.words; offset = a.offset; len = a.len }) (eqb-true a.place b.place five.0)
    ∙ ap (λ (n : ℕ). record b { words = n; offset = a.offset; len = a.len }) (eqb-true a.words b.words six.0)
    ∙ ap (λ (n : ℕ). record b { offset = n; len = a.len }) (eqb-true a.offset b.offset seven.0)
    ∙ ap (λ (n : ℕ). record b { len = n }) (eqb-true a.len b.len seven.1)

less-cases : (a b : ℕ) (p : Ordering) → ordering_then (nat_cmp a b) p ≡ Less → (a < b) ⊎ ((a ≡ b) × (p ≡ Less))
less-cases a b p h = elim (cases_order a b) [
  | inl same ↦ (let upto : b ≤ a = omega (arith, same) in inr (same, rw (le-ltb a b upto, eq-eqb a b same) at h))
  | inr apart ↦ (elim apart [
    | inl less ↦ inl less
    | inr more ↦
        let differs : a ≡ b → ⊥ = λ e. omega (arith, e, more) in
        let upto : b ≤ a = omega (arith, more) in
        let is : Greater ≡ Less = rw (le-ltb a b upto, ne_eqb a b differs) at h in
        absurd cc
  ])
]

-- Seats

pub contains-behind : {A : Type 0} (x : A) (xs : List A) (y : A) → Contains xs y → Contains (x ∷ xs) y
contains-behind x xs y c = (suc c.0, omega (arith, c.1), c.2)

pub contains-from_map : {A B : Type 0} (f : A → B) (xs : List A) (y : B) → Contains (map f xs) y → (x : A) × Contains xs x × (f x ≡ y)
contains-from_map f [] y c = absurd (omega (arith, c.1))
contains-from_map f (x ∷ xs) y c = elim (contains-cons (f x) (map f xs) y c) [
  | inl same ↦ (x, (0, omega arith, refl), same)
  | inr behind ↦ (let rest = contains-from_map f xs y behind in (rest.0, contains-behind x xs rest.0 rest.1, rest.2))
]

its-seats : (log : ℕ) (xs : List (ℕ × Record)) → map (λ (s : PlacedRecord). s.its) (map (λ (x : ℕ × Record). seat log x.0 x.1) xs) ≡ map (λ (x : ℕ × Record). x.1) xs
its-seats log [] = refl
its-seats log (x ∷ xs) = ap (λ (l : List Record). x.1 ∷ l) (its-seats log xs)

pub map-its : (n : ℕ) (logs : List (List ℕ)) → map (λ (s : PlacedRecord). s.its) (seats_from n logs) ≡ flat_map (λ (l : List Record). l) (map records_in logs)
map-its n [] = refl
map-its n (words ∷ logs) =
    map-append (λ (s : PlacedRecord). s.its) (seats_of n words) (seats_from (n + 1) logs)
    ∙ ap₂ (λ (x y : List Record). x ++ y) (its-seats n (placed_in words) ∙ placed-records 0 (records_in words)) (map-its (n + 1) logs)

record Known (n : ℕ) (logs : List (List ℕ)) (s : PlacedRecord) : Type 0 where
  place : ℕ
  is : s.log ≡ n + place
  within : place < length logs
  among : Contains (placed_in (get_or logs place [])) (s.place, s.its)

known : (n : ℕ) (logs : List (List ℕ)) (s : PlacedRecord) → Contains (seats_from n logs) s → Known n logs s
known n [] s c = absurd (omega (arith, c.1))
known n (words ∷ logs) s c = elim (Contains-append_cases (seats_of n words) (seats_from (n + 1) logs) s c) [
  | inl own ↦
      let at = contains-from_map (λ (x : ℕ × Record). seat n x.0 x.1) (placed_in words) s own in
      record {
        place = 0;
        is = sym (ap (λ (t : PlacedRecord). t.log) at.2) ∙ omega arith;
        within = omega arith;
        among = subst (λ (x : ℕ × Record). Contains (placed_in words) x) (ap₂ (λ (p : ℕ) (r : Record). (p, r)) (ap (λ (t : PlacedRecord). t.place) at.2) (ap (λ (t : PlacedRecord). t.its) at.2)) at.1;
      }
  | inr behind ↦
      let rest : Known (n + 1) logs s = known (n + 1) logs s behind in
      record { place = suc rest.place; is = omega (arith, rest.is); within = omega (arith, rest.within); among = rest.among }
]

-- Where a range stands

span_of_placed : (version : GrammarVersion) (place : ℕ) (ranges : List RangeData) (k : ℕ) (placed : PlacedSpan) → slice_get (placed_from version place ranges) k ≡ Some placed
    → (range : RangeData) × (slice_get ranges k ≡ Some range) × (placed.span ≡ span_of range)
span_of_placed version place [] k placed at = absurd (none-some placed at)
span_of_placed version place (r ∷ rs) zero placed at = (r, refl, sym (ap (λ (x : PlacedSpan). x.span) (same_Some (record { span = span_of r; place = place + place_words version }) placed at)))
span_of_placed version place (r ∷ rs) (suc k) placed at = span_of_placed version (place + place_words version + data_len (length r.bytes)) rs k placed at

-- Where a record stands

spans-placed : (place : ℕ) (rs : List Record) → spans_from place rs ≡ map (λ (x : ℕ × Record). (x.0, record_len x.1)) (placed place rs)
spans-placed place [] = refl
spans-placed place (r ∷ rs) =
    ap (λ (l : List (ℕ × ℕ)). (place, record_len r) ∷ l)
    (ap (λ (n : ℕ). spans_from (place + n) rs) (sym (length-spelling r)) ∙ spans-placed (place + length (spelling r)) rs)

placed-begins : (ws : List ℕ) (x : ℕ × Record) → Contains (placed_in ws) x → BeginsWith (drop x.0 ws) x.1 (record_len x.1)
placed-begins ws x c =
    let rs : List Record = records_in ws in
    let at : slice_get (placed_in ws) c.0 ≡ Some x = slice_get_read (placed_in ws) (length (placed_in ws)) c.0 x refl c.1 (sym c.2) in
    let span : slice_get (spans_from 0 rs) c.0 ≡ Some (x.0, record_len x.1) =
    ap (λ (l : List (ℕ × ℕ)). slice_get l c.0) (spans-placed 0 rs) ∙ slice_get-map (λ (y : ℕ × Record). (y.0, record_len y.1)) (placed_in ws) c.0 ∙ ap (option_map (λ (y : ℕ × Record). (y.0, record_len y.1))) at in
    let own : slice_get rs c.0 ≡ Some x.1 =
    sym (ap (λ (l : List Record). slice_get l c.0) (placed-records 0 rs)) ∙ slice_get-map (λ (y : ℕ × Record). y.1) (placed_in ws) c.0 ∙ ap (option_map (λ (y : ℕ × Record). y.1)) at in
    let begins = span_begins ws 0 rs (records_text ws) c.0 x.0 (record_len x.1) span in
    subst (λ (r : Record). BeginsWith (drop x.0 ws) r (record_len r)) (same_Some begins.0 x.1 (sym begins.1 ∙ own)) begins.3

-- The index

compare_total : IsTotalOrder compare
compare_total =
    then_total (on_total (λ (c : RedoRange). c.segment) nat_cmp_total)
    (then_total (on_total (λ (c : RedoRange). c.page) nat_cmp_total)
    (then_total (on_total (λ (c : RedoRange). c.seq) nat_cmp_total)
    (then_total (on_total (λ (c : RedoRange). c.log) nat_cmp_total)
    (then_total (on_total (λ (c : RedoRange). c.place) nat_cmp_total)
    (then_total (on_total (λ (c : RedoRange). c.words) nat_cmp_total)
    (then_total (on_total (λ (c : RedoRange). c.offset) nat_cmp_total) (on_total (λ (c : RedoRange). c.len) nat_cmp_total)))))))

equal_equiv : IsEquivalence equal
equal_equiv =
    and_equiv (on_equiv (λ (c : RedoRange). c.segment) nat_eq_equiv)
    (and_equiv (on_equiv (λ (c : RedoRange). c.page) nat_eq_equiv)
    (and_equiv (on_equiv (λ (c : RedoRange). c.seq) nat_eq_equiv)
    (and_equiv (on_equiv (λ (c : RedoRange). c.log) nat_eq_equiv)
    (and_equiv (on_equiv (λ (c : RedoRange). c.place) nat_eq_equiv)
    (and_equiv (on_equiv (λ (c : RedoRange). c.words) nat_eq_equiv)
    (and_equiv (on_equiv (λ (c : RedoRange). c.offset) nat_eq_equiv) (on_equiv (λ (c : RedoRange). c.len) nat_eq_equiv)))))))

-- a range whose bytes stand there is that of the record
record IsThere (words : List ℕ) (r : Record) (placed : PlacedSpan) : Type 0 where
  among : Contains r.ranges (range_in words placed)
  long : length (range_in words placed).bytes ≡ placed.span.len

is_there : (words : List ℕ) (r : Record) (placed : PlacedSpan) → BeginsWith words r (record_len r) → Contains (placed_spans r) placed → IsThere words r placed
is_there words r placed begins has =
    let all : map (range_in words) (placed_spans r) ≡ r.ranges = give_ranges r words (record_len r) begins in
    let at : slice_get (placed_spans r) has.0 ≡ Some placed = slice_get_read (placed_spans r) (length (placed_spans r)) has.0 placed refl has.1 (sym has.2) in
    let its : slice_get r.ranges has.0 ≡ Some (range_in words placed) =
    sym (ap (λ (l : List RangeData). slice_get l has.0) all) ∙ slice_get-map (range_in words) (placed_spans r) has.0 ∙ ap (option_map (range_in words)) at in
    let span = span_of_placed (version_of r.ranges) (2 + 2 * length r.locks) r.ranges has.0 placed at in
    let same : span.0 ≡ range_in words placed = same_Some span.0 (range_in words placed) (sym span.1 ∙ its) in
    record {
      among = contains-at r.ranges has.0 (range_in words placed) its;
      long = sym (ap (λ (x : Span). x.len) span.2 ∙ ap (λ (x : RangeData). length x.bytes) same);
    }

module _ (logs : List (List ℕ)) (segments : List SegmentPages) where
  pub is-change : (s : PlacedRecord) (c : RedoRange) → Contains (seats_from 0 logs) s → IsOf (map kept_pages segments) s c → IsChange logs (store_of logs segments) c
  is-change s c there its =
      let k : Known 0 logs s = known 0 logs s there in
      let placed : PlacedSpan = its.placed in
      let own_log : c.log ≡ s.log = ap (λ (d : RedoRange). d.log) its.is in
      let log : k.place ≡ c.log = omega (arith, k.is, own_log) in
      let among : Contains (placed_in (get_or logs c.log [])) (s.place, s.its) = subst (λ (n : ℕ). Contains (placed_in (get_or logs n [])) (s.place, s.its)) log k.among in
      let within : c.log < length logs = omega (arith, log, k.within) in
      let words : get_or (map records_in logs) c.log [] ≡ records_in (get_or logs c.log []) = get_or-map records_in logs c.log [] [] within in
      let begins : BeginsWith (drop s.place (get_or logs c.log [])) s.its (record_len s.its) = placed-begins (get_or logs c.log []) (s.place, s.its) among in
      let own = is_there (drop s.place (get_or logs c.log [])) s.its its.placed begins its.its in
      let segment : c.segment ≡ its.placed.span.segment = ap (λ (d : RedoRange). d.segment) its.is in
      record {
        changing = s.its;
        among = subst (λ (l : List Record). Contains l s.its) (sym words) (record-in (get_or logs c.log []) (s.place, s.its) among);
        canonical = begins.whole.canonical;
        range = range_in (drop s.place (get_or logs c.log [])) its.placed;
        its = own.among;
        names = record {
          within = within;
          segment = sym segment;
          offset = sym (ap (λ (d : RedoRange). d.offset) its.is);
          len = own.long ∙ sym (ap (λ (d : RedoRange). d.len) its.is);
          bytes = ap (λ (n : ℕ). take n (bytes_of (drop c.words (drop c.place (get_or logs c.log []))))) (ap (λ (d : RedoRange). d.len) its.is)
              ∙ ap (λ (n : ℕ). take its.placed.span.len (bytes_of (drop n (drop c.place (get_or logs c.log []))))) (ap (λ (d : RedoRange). d.words) its.is)
              ∙ ap (λ (n : ℕ). take its.placed.span.len (bytes_of (drop its.placed.place (drop n (get_or logs c.log []))))) (ap (λ (d : RedoRange). d.place) its.is);
        };
        number = ap (λ (n : ℕ). number_or_zero n s.its.locks) segment ∙ sym (ap (λ (d : RedoRange). d.seq) its.is);
        text = its.text;
        page = its.page;
        newer = its.newer;
        offset = its.offset;
        on_page = its.on_page;
        has = its.has;
      }

  before : (c d : RedoRange) → compare c d ≡ Less → IsBefore c d
  before c d less = elim (less-cases c.segment d.segment (ordering_then (nat_cmp c.page d.page) (ordering_then (nat_cmp c.seq d.seq) (behind c d))) less) [
    | inl segment ↦ inl segment
    | inr one ↦ inr (
      one.0,
      elim (less-cases c.page d.page (ordering_then (nat_cmp c.seq d.seq) (behind c d)) one.1) [
        | inl page ↦ inl page
        | inr two ↦ inr (
          two.0,
          elim (less-cases c.seq d.seq (behind c d) two.1) [
            | inl seq ↦ omega (arith, seq)
            | inr three ↦ omega (arith, three.0)
          ],
        )
      ],
    )
  ]

  ascending : (changes : List RedoRange) → IsStrictlySortedBy compare changes → AreAscending changes
  unfolding IsStrictlySortedBy
  ascending [] sorted = tt
  ascending (c ∷ cs) sorted = (
    (λ k d within. before c (get_or cs k d) (All-from_recursion (λ (x : RedoRange). compare c x ≡ Less) cs sorted.0 k d within)),
    ascending cs sorted.1,
  )

  pub are-index : (added sorted kept : List RedoRange) → AreOf (map kept_pages segments) (seats_from 0 logs) added → IsPermutation added sorted → IsSorted compare sorted → kept ≡ dedup equal sorted
      → IsIndex logs (store_of logs segments) kept
  are-index added sorted kept of moved order is =
      let sound : (c : RedoRange) → Contains (dedup equal sorted) c → (s : PlacedRecord) × Contains (seats_from 0 logs) s × IsOf (map kept_pages segments) s c =
      λ c there. of.sound c (Contains-permutation sorted added c (IsPermutation-sym added sorted moved) (Contains-from_dedup equal sorted c there)) in
      subst (λ (l : List RedoRange). IsIndex logs (store_of logs segments) l) (sym is) (record {
        sound = λ k d within. (let c = get_or (dedup equal sorted) k d in let its = sound c (k, within, same-item (dedup equal sorted) k c d within) in is-change its.0 c its.1 its.2);
        whole = λ segment page offset text r at there within has.
            (let s = contains-from_map (λ (u : PlacedRecord). u.its) (seats_from 0 logs) r (subst (λ (l : List Record). Contains l r) (sym (map-its 0 logs)) there) in
            let c = of.whole s.0 s.1 segment page offset text at within (subst (λ (x : Record). IsTrue (has_byte segment (page * 256 + offset) text.sequence x)) (sym s.2) has) in
            (c.0, Contains-dedup equal_equiv same-change sorted c.0 (Contains-permutation added sorted c.0 moved c.1), c.2, c.3, c.4 ∙ ap (λ (x : Record). number_or_zero segment x.locks) s.2, c.5));
        ascending = ascending (dedup equal sorted) (IsStrictlySortedBy-dedup compare_total ties sorted order);
      })

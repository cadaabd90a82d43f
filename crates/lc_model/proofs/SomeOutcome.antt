-- A store has an outcome.
use Rattle.std.proofs.Common.{◌≡◌, ◌≢◌, ◌⊎◌, ℕ, zero, suc, ◌+◌, ◌*◌, ◌/◌, ◌%◌, ◌<◌, ◌≤◌, Bool, true, false, ◌==◌, List, [], ◌∷◌, map, length, filter, Option, Some, None, is_some, All, Contains, IsTrue, max, refl, sym, ◌∙◌, ap, subst, arith, inl, inr, true≢false, eqb-true}
use Rattle.std.specs.Prelude.{slice_get, slice_index_or}
use Rattle.std.proofs.Math.Nat.{le_refl}
use Rattle.std.proofs.lemmas.Bool.{cases_lt}
use Rattle.std.proofs.lemmas.Nat.{div-mul-add, mod-mul-add}
use Rattle.std.proofs.lemmas.Option.{slice_get_within}
use Rattle.std.proofs.lemmas.List.Elements.{All-nil, All-cons, All-weaker, All-contains, Contains-append_right}
use Rattle.lc_record.specs.Content.{Content, segment_of}
use Rattle.lc_record.specs.GrammarVersion.{end_of}
use Rattle.lc_record.specs.Record.{span_of}
use Rattle.lc_record.specs.declared.record.Record.{Record}
use Rattle.lc_record.specs.declared.record.Lock.{Lock}
use Rattle.lc_record.specs.declared.record.RangeData.{RangeData}
use Rattle.lc_record.specs.Newest.{number_or_zero, byte_of, has_byte, IsNewest, IsByNumber}
use Rattle.lc_record.proofs.ListLemmas.{slice_get_some as get-some}
use Rattle.lc_model.specs.Merging.{byte_at}
use Rattle.lc_model.specs.Merge.{Page, StoreText, all_records, page_number, record_number, has_number, how_many, IsTwice, IsGap, IsMerged, MergeFault, BadGeometry, OutOfSegment, Twice, Gap, HasOtherNode, IsOutside, HasOutside, HasGap, AreWithin, AreOnce, Refuses, MergesTo}
use Rattle.lc_model.proofs.Numbers.{all-greatest}
use Rattle.lc_model.proofs.Result.{number-counts}
use Rattle.lc_model.proofs.Visible.{log-known, log-of}
use Rattle.lc_model.proofs.Decided.{Either, in-list, least-found, least_pair-found, either-less, either-at_most, either-same, either-not, either-both, either-three, either-one}

-- The logs

either-other_node : (store : StoreText) (log : ℕ) → Either (HasOtherNode store log)
either-other_node store log = in-list (λ (r : Record). r.node ≢ log) (slice_index_or store.logs log []) (λ r. either-not (either-same r.node log))

either-outside : (store : StoreText) (r : Record) → Either (IsOutside store r)
either-outside store r =
    either-one
    (in-list (λ (lock : Lock). length store.pages < lock.segment) r.locks (λ lock. either-less (length store.pages) lock.segment))
    (in-list (λ (range : RangeData). length (segment_of range.segment store.pages) * 256 < end_of (span_of range)) r.ranges
    (λ range. either-less (length (segment_of range.segment store.pages) * 256) (end_of (span_of range))))

either-has_outside : (store : StoreText) (log : ℕ) → Either (HasOutside store log)
either-has_outside store log = in-list (IsOutside store) (slice_index_or store.logs log []) (either-outside store)

-- Numbers

number-lock : (segment : ℕ) (locks : List Lock) → 0 < number_or_zero segment locks → (lock : Lock) × Contains locks lock × (lock.segment ≡ segment)
number-lock segment [] some = absurd (omega (arith, some))
number-lock segment (lock ∷ locks) some =
    elim (lock.segment == segment) as (λ b. (lock.segment == segment) ≡ b → (one : Lock) × Contains (lock ∷ locks) one × (one.segment ≡ segment)) [
      | true ↦ λ e. (lock, (0, (omega arith), refl), eqb-true lock.segment segment e)
      | false ↦ λ e.
          let behind : 0 < number_or_zero segment locks = rw e at some in
          let one : (one : Lock) × Contains locks one × (one.segment ≡ segment) = number-lock segment locks behind in
          (one.0, Contains-append_right (lock ∷ []) locks one.0 one.1, one.2)
    ] refl

one-passes : {X : Type 0} (p : X → Bool) (xs : List X) → 0 < length (filter p xs) → (x : X) × Contains xs x × (p x ≡ true)
one-passes p [] some = absurd (omega (arith, some))
one-passes {X} p (x ∷ xs) some =
    elim (p x) as (λ b. p x ≡ b → (y : X) × Contains (x ∷ xs) y × (p y ≡ true)) [
      | true ↦ λ e. (x, (0, (omega arith), refl), e)
      | false ↦ λ e.
          let behind : 0 < length (filter p xs) = rw e at some in
          let one : (y : X) × Contains xs y × (p y ≡ true) = one-passes p xs behind in
          (one.0, Contains-append_right (x ∷ []) xs one.0 one.1, one.2)
    ] refl

-- a number of a record that lies within the segments is of one of them, and not above their greatest
number-known : (store : StoreText) (segment : ℕ) (r : Record) → AreWithin store → Contains (all_records store) r → 0 < number_or_zero segment r.locks → segment ≤ length store.pages
number-known store segment r within among some =
    let log : (k : ℕ) × Contains (slice_index_or store.logs k []) r = log-of store.logs r among in
    let lock : (lock : Lock) × Contains r.locks lock × (lock.segment ≡ segment) = number-lock segment r.locks some in
    elim (cases_lt (length store.pages) segment) [
      | inl above ↦
          let outside : length store.pages < lock.0.segment = omega (arith, above, lock.2) in
          absurd (within log.0 (r, log.1, inl (lock.0, lock.1, outside)))
      | inr known ↦ known
    ]

number-most : (store : StoreText) (segment : ℕ) (r : Record) → Contains (all_records store) r → number_or_zero segment r.locks ≤ record_number segment store
number-most store segment r among =
    All-contains (λ q. number_or_zero segment q.locks ≤ record_number segment store) (all_records store) r (all-greatest (λ (q : Record). number_or_zero segment q.locks) (all_records store)) among

twice-known : (store : StoreText) (segment seq : ℕ) → AreWithin store → IsTwice store segment seq → (segment ≤ length store.pages) × (seq ≤ record_number segment store)
twice-known store segment seq within twice =
    let some : 0 < how_many segment seq store = omega (arith, twice.1) in
    let r : (r : Record) × Contains (all_records store) r × (has_number segment seq r ≡ true) = one-passes (has_number segment seq) (all_records store) some in
    let is : number_or_zero segment r.0.locks ≡ seq = eqb-true (number_or_zero segment r.0.locks) seq r.2 in
    let above : 0 < number_or_zero segment r.0.locks = omega (arith, is, twice.0) in
    let most : number_or_zero segment r.0.locks ≤ record_number segment store = number-most store segment r.0 r.1 in
    (number-known store segment r.0 within r.1 above, omega (arith, is, most))

either-twice : (store : StoreText) (segment seq : ℕ) → Either (IsTwice store segment seq)
either-twice store segment seq = either-both (either-less 0 seq) (either-less 1 (how_many segment seq store))

either-gap : (store : StoreText) (segment seq : ℕ) → Either (HasGap store segment seq)
either-gap store segment seq =
    let missing : Either (IsGap store segment seq) =
    either-three (either-less (page_number segment store) seq) (either-same (how_many segment seq store) 0)
    (in-list (λ (r : Record). seq < number_or_zero segment r.locks) (all_records store) (λ r. either-less seq (number_or_zero segment r.locks))) in
    either-three (either-less 0 segment) (either-at_most segment (length store.pages)) missing

-- Bytes

newest-found : (segment place floor : ℕ) (rs : List Record) → All (λ q. has_byte segment place floor q ≡ false) rs ⊎ ((r : Record) × IsNewest segment place floor rs (byte_of segment place r.ranges) r)
newest-found segment place floor [] = inl (All-nil (λ q. has_byte segment place floor q ≡ false))
newest-found segment place floor (x ∷ xs) =
    let Has : Record → Type 0 = λ q. has_byte segment place floor q ≡ true in
    let Not : Record → Type 0 = λ q. has_byte segment place floor q ≡ false in
    let Most : Record → Record → Type 0 = λ r q. IsTrue (has_byte segment place floor q) → number_or_zero segment q.locks ≤ number_or_zero segment r.locks in
    elim (has_byte segment place floor x) as (λ b. has_byte segment place floor x ≡ b → All (λ q. has_byte segment place floor q ≡ false) (x ∷ xs) ⊎ ((r : Record) × IsNewest segment place floor (x ∷ xs) (byte_of segment place r.ranges) r)) [
      | true ↦ λ e.
          (elim (newest-found segment place floor xs) [
            | inl none ↦
                inr (
                  x,
                  record {
                    among = (0, (omega arith), refl);
                    has = e;
                    is = refl;
                    greatest = All-cons (Most x) x xs (λ has. le_refl (number_or_zero segment x.locks))
                        (All-weaker Not (Most x) (λ q is_not has. absurd (true≢false (sym has ∙ is_not))) xs none);
                  },
                )
            | inr one ↦
                (elim (cases_lt (number_or_zero segment one.0.locks) (number_or_zero segment x.locks)) [
                  | inl less ↦
                      inr (
                        x,
                        record {
                          among = (0, (omega arith), refl);
                          has = e;
                          is = refl;
                          greatest = All-cons (Most x) x xs (λ has. le_refl (number_or_zero segment x.locks))
                              (All-weaker (Most one.0) (Most x) (λ q most has. (let low : number_or_zero segment q.locks ≤ number_or_zero segment one.0.locks = most has in omega (arith, low, less))) xs one.1.greatest);
                        },
                      )
                  | inr not_less ↦
                      inr (
                        one.0,
                        record {
                          among = Contains-append_right (x ∷ []) xs one.0 one.1.among;
                          has = one.1.has;
                          is = refl;
                          greatest = All-cons (Most one.0) x xs (λ has. not_less) one.1.greatest;
                        },
                      )
                ])
          ])
      | false ↦ λ e.
          (elim (newest-found segment place floor xs) [
            | inl none ↦ inl (All-cons Not x xs e none)
            | inr one ↦
                inr (
                  one.0,
                  record {
                    among = Contains-append_right (x ∷ []) xs one.0 one.1.among;
                    has = one.1.has;
                    is = refl;
                    greatest = All-cons (Most one.0) x xs (λ has. absurd (true≢false (sym has ∙ e))) one.1.greatest;
                  },
                )
          ])
    ] refl

is-some : (o : Option ℕ) → is_some o ≡ true → (byte : ℕ) × (o ≡ Some byte)
is-some None some = absurd (true≢false (sym some))
is-some (Some byte) some = (byte, refl)

by_number-found : (segment place floor : ℕ) (rs : List Record) (byte : ℕ) → (new : ℕ) × IsByNumber segment place floor rs (Some byte) (Some new)
by_number-found segment place floor rs byte =
    elim (newest-found segment place floor rs) [
      | inl none ↦ (byte, inl (none, refl))
      | inr one ↦
          let own : (b : ℕ) × (byte_of segment place one.0.ranges ≡ Some b) = is-some (byte_of segment place one.0.ranges) (number-counts segment place floor one.0 one.1.has).0 in
          (own.0, inr (one.0, record { among = one.1.among; has = one.1.has; is = sym own.1; greatest = one.1.greatest }))
    ]

abbrev byte_over : ℕ → ℕ → ℕ → List Record → Option ℕ → ℕ
byte_over segment place floor rs None = 0
byte_over segment place floor rs (Some byte) = (by_number-found segment place floor rs byte).0

abbrev byte_on : ℕ → ℕ → List Record → Option Page → ℕ
byte_on segment place rs None = 0
byte_on segment place rs (Some text) = byte_over segment place text.sequence rs (slice_get text.bytes (place % 256))

abbrev result_byte : StoreText → ℕ → ℕ → ℕ
result_byte store segment place = byte_on segment place (all_records store) (slice_get (segment_of segment store.pages) (place / 256))

byte_over-is : (segment place floor : ℕ) (rs : List Record) (before : Option ℕ) (byte : ℕ) → before ≡ Some byte → IsByNumber segment place floor rs before (Some (byte_over segment place floor rs before))
byte_over-is segment place floor rs None byte is = absurd cc
byte_over-is segment place floor rs (Some old) byte is = (by_number-found segment place floor rs old).1

result_byte-is : (store : StoreText) (segment page offset : ℕ) (text : Page) → slice_get (segment_of segment store.pages) page ≡ Some text → length text.bytes ≡ 256 → offset < 256 → IsByNumber segment (page * 256 + offset) text.sequence (all_records store) (slice_get text.bytes offset) (Some (result_byte store segment (page * 256 + offset)))
result_byte-is store segment page offset text is long in_page =
    let place : ℕ = page * 256 + offset in
    let rs : List Record = all_records store in
    let in_bytes : offset < length text.bytes = omega (arith, in_page, long) in
    let old : (byte : ℕ) × (slice_get text.bytes offset ≡ Some byte) = get-some text.bytes offset in_bytes in
    let same : result_byte store segment (page * 256 + offset) ≡ byte_over segment (page * 256 + offset) text.sequence (all_records store) (slice_get text.bytes offset) =
    ap (λ k. byte_on segment (page * 256 + offset) (all_records store) (slice_get (segment_of segment store.pages) k)) (div-mul-add page 256 offset in_page)
    ∙ ap (byte_on segment (page * 256 + offset) (all_records store)) is
    ∙ ap (λ k. byte_over segment (page * 256 + offset) text.sequence (all_records store) (slice_get text.bytes k)) (mod-mul-add page 256 offset in_page) in
    subst (λ (n : ℕ). IsByNumber segment (page * 256 + offset) text.sequence (all_records store) (slice_get text.bytes offset) (Some n)) (sym same)
    (byte_over-is segment (page * 256 + offset) text.sequence (all_records store) (slice_get text.bytes offset) old.0 old.1)

-- The content of them

abbrev made : (ℕ → ℕ) → ℕ → List ℕ
made f zero = []
made f (suc n) = f 0 ∷ made (λ k. f (suc k)) n

made-length : (f : ℕ → ℕ) (n : ℕ) → length (made f n) ≡ n
made-length f zero = refl
made-length f (suc n) = ap suc (made-length (λ k. f (suc k)) n)

made-get : (f : ℕ → ℕ) (n k : ℕ) → k < n → slice_get (made f n) k ≡ Some (f k)
made-get f zero k within = absurd (omega (arith, within))
made-get f (suc n) zero within = refl
made-get f (suc n) (suc k) within =
    let behind : k < n = omega arith in
    made-get (λ j. f (suc j)) n k behind

abbrev content_from : (ℕ → ℕ → ℕ) → ℕ → List (List Page) → Content
content_from byte first [] = []
content_from byte first (pages ∷ segments) = made (byte first) (length pages * 256) ∷ content_from byte (first + 1) segments

content-shape : (byte : ℕ → ℕ → ℕ) (first : ℕ) (segments : List (List Page)) → map length (content_from byte first segments) ≡ map (λ (pages : List Page). length pages * 256) segments
content-shape byte first [] = refl
content-shape byte first (pages ∷ segments) =
    ap (λ n. n ∷ map length (content_from byte (first + 1) segments)) (made-length (byte first) (length pages * 256))
    ∙ ap (λ ns. length pages * 256 ∷ ns) (content-shape byte (first + 1) segments)

content-part : (byte : ℕ → ℕ → ℕ) (first i : ℕ) (segments : List (List Page)) → segment_of (suc i) (content_from byte first segments) ≡ made (byte (first + i)) (length (segment_of (suc i) segments) * 256)
content-part byte first i [] = refl
content-part byte first zero (pages ∷ segments) =
    let same : first ≡ first + 0 = omega arith in
    ap (λ n. made (byte n) (length pages * 256)) same
content-part byte first (suc i) (pages ∷ segments) =
    let same : (first + 1) + i ≡ first + suc i = omega arith in
    content-part byte (first + 1) i segments
    ∙ ap (λ n. made (byte n) (length (segment_of (suc i) segments) * 256)) same

content-byte : (byte : ℕ → ℕ → ℕ) (segment place : ℕ) (segments : List (List Page)) → place < length (segment_of segment segments) * 256 → byte_at segment place (content_from byte 1 segments) ≡ Some (byte segment place)
content-byte byte zero place [] within = absurd (omega (arith, within))
content-byte byte zero place (pages ∷ segments) within = absurd (omega (arith, within))
content-byte byte (suc i) place segments within =
    let same : 1 + i ≡ suc i = omega arith in
    ap (λ bytes. slice_get bytes place) (content-part byte 1 i segments)
    ∙ made-get (byte (1 + i)) (length (segment_of (suc i) segments) * 256) place within
    ∙ ap (λ n. Some (byte n place)) same

-- All of it

abbrev Long : StoreText → Type 0
Long store = (segment page : ℕ) (text : Page) → slice_get (segment_of segment store.pages) page ≡ Some text → length text.bytes ≡ 256

value : (store : StoreText) → Long store → AreOnce store → ((segment seq : ℕ) → HasGap store segment seq → ⊥) → IsMerged store (content_from (result_byte store) 1 store.pages) (λ segment. max (page_number segment store) (record_number segment store))
value store long once whole = record {
  not_twice = once;
  no_gap = λ segment seq some last gap. whole segment seq (some, last, gap);
  shape = content-shape (result_byte store) 1 store.pages;
  bytes = λ segment page text is offset in_page.
      (let page_in : page < length (segment_of segment store.pages) = slice_get_within (segment_of segment store.pages) page text is in
      let within : page * 256 + offset < length (segment_of segment store.pages) * 256 = omega (arith, page_in, in_page) in
      subst (λ (after : Option ℕ). IsByNumber segment (page * 256 + offset) text.sequence (all_records store) (slice_get text.bytes offset) after)
      (sym (content-byte (result_byte store) segment (page * 256 + offset) store.pages within))
      (result_byte-is store segment page offset text is (long segment page text is) in_page));
  counted = λ segment some last. refl;
}

pub some-outcome : (store : StoreText) → Long store → ((fault : MergeFault) × Refuses store fault) ⊎ ((content : Content) × (numbers : ℕ → ℕ) × MergesTo store content numbers)
some-outcome store long =
    elim (least-found (HasOtherNode store) (length store.logs) (either-other_node store) (λ log found. log-known store.logs log found.0 found.1)) [
      | inl found ↦ inl (BadGeometry found.0, found.1)
      | inr own ↦
          (elim (least-found (HasOutside store) (length store.logs) (either-has_outside store) (λ log found. log-known store.logs log found.0 found.1)) [
            | inl found ↦ inl (OutOfSegment found.0, (own, found.1))
            | inr within ↦
                (elim (least_pair-found (IsTwice store) (suc (length store.pages)) (λ segment. suc (record_number segment store)) (either-twice store)
                (λ segment seq twice. (let known : segment ≤ length store.pages = (twice-known store segment seq within twice).0 in omega (arith, known)))
                (λ segment seq twice. (let most : seq ≤ record_number segment store = (twice-known store segment seq within twice).1 in omega (arith, most)))) [
                  | inl found ↦ inl (Twice found.0 found.1, (own, within, found.2))
                  | inr once ↦
                      (elim (least_pair-found (HasGap store) (suc (length store.pages)) (λ segment. record_number segment store) (either-gap store)
                      (λ segment seq gap. (let known : segment ≤ length store.pages = gap.1 in omega (arith, known)))
                      (λ segment seq gap.
                      (let most : number_or_zero segment gap.2.2.0.locks ≤ record_number segment store = number-most store segment gap.2.2.0 gap.2.2.1 in
                      omega (arith, most, gap.2.2.2)))) [
                        | inl found ↦ inl (Gap found.0 found.1, (own, within, once, found.2))
                        | inr whole ↦
                            inr (content_from (result_byte store) 1 store.pages, (λ segment. max (page_number segment store) (record_number segment store)), (own, within, value store long once whole))
                      ])
                ])
          ])
    ]

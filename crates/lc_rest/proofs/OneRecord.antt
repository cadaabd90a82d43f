-- The record of the transaction that a record stands for is that record.
use Rattle.std.proofs.Common.{◌≡◌, ℕ, zero, suc, ◌+◌, ◌<◌, ◌≤◌, Bool, true, false, ◌==◌, List, [], ◌∷◌, map, length, take, drop, Option, Some, None, All, refl, sym, ◌∙◌, ap, subst, arith, inl, inr, true≢false, eqb-true, eq-eqb}
use Rattle.std.specs.Prelude.{◌↔◌, if◌then◌else◌, slice_get, is_some}
use Rattle.std.specs.Option.{option_or}
use Rattle.std.proofs.lemmas.List.Elements.{All-nil, All-cons, All-head, All-tail}
use Rattle.lc_record.specs.Content.{Content, segment_of}
use Rattle.lc_record.specs.Geometry.{segment_len}
use Rattle.lc_record.specs.Marks.{counting}
use Rattle.lc_record.specs.Newest.{byte_from, byte_in, byte_of}
use Rattle.lc_record.specs.Record.{Chain, IsBefore}
use Rattle.lc_record.specs.Transaction.{all_set, writes_on}
use Rattle.lc_record.specs.Recorded.{laid}
use Rattle.lc_record.specs.declared.geometry.Geometry.{Geometry}
use Rattle.lc_record.specs.declared.record.RangeData.{RangeData}
use Rattle.lc_record.proofs.ViewLemmas.{get_taken}
use Rattle.lc_record.proofs.ListLemmas.{option_or-some as or-first, slice_get-drop as at_drop, option_or_right as some-or, option_or_cases as or-some, none_from_not_some as none-of}
use Rattle.lc_record.proofs.PuttingLemmas.{byte_from-some as from-some, byte_from-known as some-from}
use Rattle.std.proofs.lemmas.Option.{slice_get_past}
use Rattle.std.proofs.lemmas.Bool.{cases_lt as nat_cases}
use Rattle.std.proofs.Math.Bool.{and-true}
use Rattle.lc_model.proofs.Bytes.{over_byte, byte-laid, same-items}
use Rattle.lc_model.specs.Merging.{byte_at}
use Rattle.lc_tx.proofs.DataLemmas.{data_in}
use Rattle.lc_range.specs.Range.{HasPosition, IsBefore as RunBefore}
use Rattle.lc_range.specs.RangeSet.{Has, LiesBefore, IsCanonical as AreRuns}
use Rattle.lc_range.specs.declared.range.Range.{Range}
use Rattle.lc_rest.specs.Adopted.{marks_of, write_of, IsInside}

-- the writes are the ranges

pub writes-laid : (ranges : List RangeData) (content : Content) → writes_on (map write_of ranges) content ≡ laid ranges content
writes-laid [] content = refl
writes-laid (range ∷ ranges) content = writes-laid ranges _

-- a range as a run
abbrev pub run_of : RangeData → Range
run_of range = record { segment = range.segment; offset = range.offset; len = length range.bytes }

-- Which places a range has a byte for

in-some : (segment place : ℕ) (range : RangeData) → HasPosition (run_of range) segment place → is_some (byte_in segment place range) ≡ true
in-some segment place range has = rw (eq-eqb range.segment segment (sym has.0)) (from-some range.offset range.bytes place has.1 has.2)

some-in : (segment place : ℕ) (range : RangeData) → is_some (byte_in segment place range) ≡ true → HasPosition (run_of range) segment place
some-in segment place range some =
    elim (range.segment == segment) as (λ b. (range.segment == segment) ≡ b → is_some (if b then byte_from range.offset range.bytes place else None) ≡ true → HasPosition (run_of range) segment place) [
      | true ↦ λ e is. let place_is : (range.offset ≤ place) × (place < range.offset + length range.bytes) = some-from range.offset range.bytes place is in (sym (eqb-true range.segment segment e), place_is.0, place_is.1)
      | false ↦ λ e is. absurd (true≢false (sym is))
    ] refl some

pub has-byte : (ranges : List RangeData) (segment place : ℕ) → Has (map run_of ranges) segment place → is_some (byte_of segment place ranges) ≡ true
has-byte [] segment place has = absurd has
has-byte (range ∷ ranges) segment place has = elim has [
  | inl here ↦ some-or (byte_of segment place ranges) (byte_in segment place range) (in-some segment place range here)
  | inr later ↦ ap is_some (or-first (byte_of segment place ranges) (byte_in segment place range) (has-byte ranges segment place later)) ∙ has-byte ranges segment place later
]

pub byte-has : (ranges : List RangeData) (segment place : ℕ) → is_some (byte_of segment place ranges) ≡ true → Has (map run_of ranges) segment place
byte-has [] segment place some = absurd (true≢false (sym some))
byte-has (range ∷ ranges) segment place some = elim (or-some (byte_of segment place ranges) (byte_in segment place range) some) [
  | inl later ↦ inr (byte-has ranges segment place later)
  | inr here ↦ inl (some-in segment place range here)
]

-- The marks

counted-set : (f : ℕ → Bool) (from n k : ℕ) → k < n → all_set k 1 (map f (counting from n)) ≡ f (from + k)
counted-set f from zero k less = absurd (omega (arith, less))
counted-set f from (suc n) zero less = let same : from ≡ from + 0 = omega arith in and-true (f from) ∙ ap f same
counted-set f from (suc n) (suc k) less = let same : from + 1 + k ≡ from + suc k = omega arith in counted-set f (from + 1) n k (omega (arith, less)) ∙ ap f same

zero-more : (n : ℕ) → 0 + n ≡ n
zero-more n = omega arith

first-set : (f : ℕ → Bool) (n k : ℕ) → k < n → all_set k 1 (map f (counting 0 n)) ≡ f k
first-set f n k less = counted-set f 0 n k less ∙ ap f (zero-more k)

set-within : (f : ℕ → Bool) (from n k : ℕ) → all_set k 1 (map f (counting from n)) ≡ true → k < n
set-within f from zero k set = absurd (true≢false (sym set))
set-within f from (suc n) zero set = omega arith
set-within f from (suc n) (suc k) set = let less : k < n = set-within f (from + 1) n k set in omega (arith, less)

pub part-counted : {A : Type 0} (f : ℕ → List A) (from n i : ℕ) → i < n → segment_of (suc i) (map f (counting from n)) ≡ f (from + i)
part-counted f from zero i less = absurd (omega (arith, less))
part-counted f from (suc n) zero less = let same : from ≡ from + 0 = omega arith in ap f same
part-counted f from (suc n) (suc i) less = let same : from + 1 + i ≡ from + suc i = omega arith in part-counted f (from + 1) n i (omega (arith, less)) ∙ ap f same

part-past : {A : Type 0} (f : ℕ → List A) (from n i : ℕ) → n ≤ i → segment_of (suc i) (map f (counting from n)) ≡ []
part-past f from zero i less = refl
part-past f from (suc n) zero less = absurd (omega (arith, less))
part-past f from (suc n) (suc i) less = part-past f (from + 1) n i (omega (arith, less))

part-none : {A : Type 0} (f : ℕ → List A) (from n : ℕ) → segment_of 0 (map f (counting from n)) ≡ []
part-none f from zero = refl
part-none f from (suc n) = refl

one_more : (i : ℕ) → 1 + i ≡ suc i
one_more i = omega arith

abbrev marks_in : Geometry → List RangeData → ℕ → List Bool
marks_in g ranges segment = map (λ place. is_some (byte_of segment place ranges)) (counting 0 (segment_len g))

-- where a range has a byte, its range lies inside
inside-of : (g : Geometry) (ranges : List RangeData) (segment place : ℕ) → All (IsInside g) ranges → Has (map run_of ranges) segment place → (1 ≤ segment) × (segment ≤ g.segments) × (place < segment_len g)
inside-of g [] segment place all has = absurd has
inside-of g (range ∷ ranges) segment place all has = elim has [
  | inl here ↦ let is : IsInside g range = All-head (IsInside g) range ranges all in let first = is.first in let last = is.last in let end = is.end in (omega (arith, here.0, first), omega (arith, here.0, last), omega (arith, here.2, end))
  | inr later ↦ inside-of g ranges segment place (All-tail (IsInside g) range ranges all) later
]

pub marks-has : (g : Geometry) (ranges : List RangeData) → All (IsInside g) ranges → (segment place : ℕ) → Has (map run_of ranges) segment place ↔ (all_set place 1 (segment_of segment (marks_of g ranges)) ≡ true)
marks-has g ranges all segment place = (to, from segment)
  where
    to : Has (map run_of ranges) segment place → all_set place 1 (segment_of segment (marks_of g ranges)) ≡ true
    to has =
        let inside : (1 ≤ segment) × (segment ≤ g.segments) × (place < segment_len g) = inside-of g ranges segment place all has in
        at segment inside.0 inside.1 inside.2 (has-byte ranges segment place has)
      where
        at : (n : ℕ) → 1 ≤ n → n ≤ g.segments → place < segment_len g → is_some (byte_of n place ranges) ≡ true → all_set place 1 (segment_of n (marks_of g ranges)) ≡ true
        at zero one most less some = absurd (omega (arith, one))
        at (suc i) one most less some =
            ap (all_set place 1) (part-counted (marks_in g ranges) 1 g.segments i (omega (arith, most)))
            ∙ ap (λ n. all_set place 1 (marks_in g ranges n)) (one_more i)
            ∙ first-set (λ k. is_some (byte_of (suc i) k ranges)) (segment_len g) place less ∙ some

    from : (n : ℕ) → all_set place 1 (segment_of n (marks_of g ranges)) ≡ true → Has (map run_of ranges) n place
    from zero set = absurd (true≢false (sym set ∙ ap (all_set place 1) (part-none (marks_in g ranges) 1 g.segments)))
    from (suc i) set = elim (nat_cases i g.segments) [
      | inl less ↦
          let here : all_set place 1 (marks_in g ranges (suc i)) ≡ true =
          sym (ap (all_set place 1) (part-counted (marks_in g ranges) 1 g.segments i less) ∙ ap (λ n. all_set place 1 (marks_in g ranges n)) (one_more i)) ∙ set in
          let within : place < segment_len g = set-within (λ k. is_some (byte_of (suc i) k ranges)) 0 (segment_len g) place here in
          byte-has ranges (suc i) place (sym (first-set (λ k. is_some (byte_of (suc i) k ranges)) (segment_len g) place within) ∙ here)
      | inr past ↦ absurd (true≢false (sym set ∙ ap (all_set place 1) (part-past (marks_in g ranges) 1 g.segments i past)))
    ]

-- The runs

before-all : (a : RangeData) (ranges : List RangeData) → (1 ≤ length a.bytes) → All (λ (r : RangeData). 1 ≤ length r.bytes) ranges → Chain IsBefore (a ∷ ranges) → LiesBefore (run_of a) (map run_of ranges)
before-all a [] some all chain = tt
before-all a (b ∷ ranges) some all chain =
    let next : 1 ≤ length b.bytes = All-head (λ (r : RangeData). 1 ≤ length r.bytes) b ranges all in
    let behind : LiesBefore (run_of b) (map run_of ranges) = before-all b ranges next (All-tail (λ (r : RangeData). 1 ≤ length r.bytes) b ranges all) chain.1 in
    (chain.0, chained (run_of a) (run_of b) (map run_of ranges) chain.0 next behind)
  where
    chained : (x y : Range) (runs : List Range) → RunBefore x y → 1 ≤ y.len → LiesBefore y runs → LiesBefore x runs
    chained x y [] first some before = tt
    chained x y (z ∷ runs) first some before = (
      (elim first [
        | inl less ↦ elim before.0 [
          | inl later ↦ inl (omega (arith, less, later))
          | inr gap ↦ inl (subst (λ (n : ℕ). x.segment < n) gap.0 less)
        ]
        | inr here ↦ elim before.0 [
          | inl later ↦ inl (subst (λ (n : ℕ). n < z.segment) (sym here.0) later)
          | inr gap ↦ inr (here.0 ∙ gap.0, omega (arith, here.1, gap.1, some))
        ]
      ]),
      chained x y runs first some before.1,
    )

pub runs-canonical : (ranges : List RangeData) → All (λ (r : RangeData). 1 ≤ length r.bytes) ranges → Chain IsBefore ranges → AreRuns (map run_of ranges)
runs-canonical [] all chain = tt
runs-canonical (a ∷ ranges) all chain = (
  All-head (λ (r : RangeData). 1 ≤ length r.bytes) a ranges all,
  before-all a ranges (All-head (λ (r : RangeData). 1 ≤ length r.bytes) a ranges all) (All-tail (λ (r : RangeData). 1 ≤ length r.bytes) a ranges all) chain,
  runs-canonical ranges (All-tail (λ (r : RangeData). 1 ≤ length r.bytes) a ranges all) (chain_behind a ranges chain),
)
  where
    chain_behind : (a : RangeData) (ranges : List RangeData) → Chain IsBefore (a ∷ ranges) → Chain IsBefore ranges
    chain_behind a [] chain = tt
    chain_behind a (b ∷ ranges) chain = chain.1

-- The bytes

-- no run after a range has its places
none-behind : (a : RangeData) (ranges : List RangeData) (k : ℕ) → k < length a.bytes → LiesBefore (run_of a) (map run_of ranges) → Has (map run_of ranges) a.segment (a.offset + k) → ⊥
none-behind a [] k less before has = has
none-behind a (b ∷ ranges) k less before has = elim has [
  | inl here ↦ elim before.0 [
    | inl earlier ↦ absurd (omega (arith, here.0, earlier))
    | inr gap ↦ absurd (omega (arith, here.1, gap.1, less))
  ]
  | inr later ↦ none-behind a ranges k less before.1 later
]

from-own : (offset : ℕ) (bytes : List ℕ) (k : ℕ) → byte_from offset bytes (offset + k) ≡ slice_get bytes k
from-own zero bytes k = ap (byte_from 0 bytes) (zero-more k)
from-own (suc offset) bytes k = let moved : suc offset + k ≡ suc (offset + k) = omega arith in ap (byte_from (suc offset) bytes) moved ∙ from-own offset bytes k

in-own : (a : RangeData) (k : ℕ) → byte_in a.segment (a.offset + k) a ≡ slice_get a.bytes k
in-own a k = rw (eq-eqb a.segment a.segment refl) (from-own a.offset a.bytes k)

-- each of the ranges shows its bytes
abbrev pub Shows : List RangeData → RangeData → Type 0
Shows whole a = (k : ℕ) → k < length a.bytes → byte_of a.segment (a.offset + k) whole ≡ slice_get a.bytes k

shows-more : (first : RangeData) (ranges : List RangeData) (a : RangeData) → Shows ranges a → Shows (first ∷ ranges) a
shows-more first ranges a shows k less =
    let is : byte_of a.segment (a.offset + k) ranges ≡ slice_get a.bytes k = shows k less in
    or-first (byte_of a.segment (a.offset + k) ranges) (byte_in a.segment (a.offset + k) first) (ap is_some is ∙ got a.bytes k less) ∙ is
  where
    got : (xs : List ℕ) (k : ℕ) → k < length xs → is_some (slice_get xs k) ≡ true
    got [] k less = absurd (omega (arith, less))
    got (x ∷ xs) zero less = refl
    got (x ∷ xs) (suc k) less = got xs k (omega (arith, less))

pub shows-all : (ranges : List RangeData) → AreRuns (map run_of ranges) → All (Shows ranges) ranges
shows-all [] runs = All-nil (Shows [])
shows-all (a ∷ ranges) runs =
    All-cons (Shows (a ∷ ranges)) a ranges
    (λ k less.
    ap (λ x. option_or x (byte_in a.segment (a.offset + k) a)) (none-of (byte_of a.segment (a.offset + k) ranges) (λ some. none-behind a ranges k less runs.1 (byte-has ranges a.segment (a.offset + k) some)))
    ∙ in-own a k)
    (all-more ranges (shows-all ranges runs.2))
  where
    all-more : (xs : List RangeData) → All (Shows ranges) xs → All (Shows (a ∷ ranges)) xs
    all-more [] all = All-nil (Shows (a ∷ ranges))
    all-more (x ∷ xs) all = All-cons (Shows (a ∷ ranges)) x xs (shows-more a ranges x (All-head (Shows ranges) x xs all)) (all-more xs (All-tail (Shows ranges) x xs all))

-- what a run reads of the content on which the ranges were laid

over-some : (x y : Option ℕ) → is_some x ≡ true → is_some y ≡ true → over_byte x y ≡ x
over-some None y some known = absurd (true≢false (sym some))
over-some (Some a) None some known = absurd (true≢false (sym known))
over-some (Some a) (Some b) some known = refl

taken-is : (xs bytes : List ℕ) (offset : ℕ) → ((k : ℕ) → k < length bytes → slice_get xs (offset + k) ≡ slice_get bytes k) → take (length bytes) (drop offset xs) ≡ bytes
taken-is xs bytes offset same =
    same-items (take (length bytes) (drop offset xs)) bytes (λ place. elim (nat_cases place (length bytes)) [
      | inl less ↦ get_taken (length bytes) (drop offset xs) place less ∙ at_drop offset place xs ∙ same place less
      | inr past ↦
          let short : length (take (length bytes) (drop offset xs)) ≤ length bytes = length-take_most (length bytes) (drop offset xs) in
          slice_get_past (take (length bytes) (drop offset xs)) place (omega (arith, short, past)) ∙ sym (slice_get_past bytes place past)
    ])
  where
    length-take_most : (n : ℕ) (xs : List ℕ) → length (take n xs) ≤ n
    length-take_most zero xs = omega arith
    length-take_most (suc n) [] = omega arith
    length-take_most (suc n) (x ∷ xs) = let less : length (take n xs) ≤ n = length-take_most n xs in omega (arith, less)

-- the ranges of the transaction's record

abbrev pub Fits : Content → RangeData → Type 0
Fits content range = range.offset + length range.bytes ≤ length (segment_of range.segment content)

known : (xs : List ℕ) (k : ℕ) → k < length xs → is_some (slice_get xs k) ≡ true
known [] k less = absurd (omega (arith, less))
known (x ∷ xs) zero less = refl
known (x ∷ xs) (suc k) less = known xs k (omega (arith, less))

laid-here : (whole : List RangeData) (content : Content) (a : RangeData) → Shows whole a → Fits content a → (k : ℕ) → k < length a.bytes → slice_get (segment_of a.segment (laid whole content)) (a.offset + k) ≡ slice_get a.bytes k
laid-here whole content a shows fits k less =
    byte-laid a.segment (a.offset + k) whole content
    ∙ over-some (byte_of a.segment (a.offset + k) whole) (byte_at a.segment (a.offset + k) content) (ap is_some (shows k less) ∙ known a.bytes k less) (known (segment_of a.segment content) (a.offset + k) (omega (arith, fits, less)))
    ∙ shows k less

pub data-own : (whole ranges : List RangeData) (content : Content) → All (Shows whole) ranges → All (Fits content) ranges → map (data_in (λ s. segment_of s (laid whole content))) (map run_of ranges) ≡ ranges
data-own whole [] content shows fits = refl
data-own whole (a ∷ ranges) content shows fits =
    ap (λ bytes. record { segment = a.segment; offset = a.offset; bytes = bytes } ∷ map (data_in (λ s. segment_of s (laid whole content))) (map run_of ranges))
    (taken-is (segment_of a.segment (laid whole content)) a.bytes a.offset (laid-here whole content a (All-head (Shows whole) a ranges shows) (All-head (Fits content) a ranges fits)))
    ∙ ap (λ rest. a ∷ rest) (data-own whole ranges content (All-tail (Shows whole) a ranges shows) (All-tail (Fits content) a ranges fits))

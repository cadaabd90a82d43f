-- The locks of the transaction that a record stands for are the record's.
use Rattle.std.proofs.Common.{◌≡◌, ◌≢◌, ℕ, ◌+◌, ◌<◌, ◌≤◌, true, false, ◌||◌, ◌==◌, List, [], ◌∷◌, map, All, refl, sym, ◌∙◌, ap, arith, inl, inr, true≢false, eqb-true, eq-eqb}
use Rattle.std.proofs.lemmas.Bool.{or_cases, or_right}
use Rattle.std.specs.Prelude.{if◌then◌else◌}
use Rattle.std.proofs.lemmas.List.Elements.{All-nil, All-cons, All-head, All-tail}
use Rattle.lc_record.specs.Record.{Chain, Locks, Writes, IsCanonical}
use Rattle.lc_record.specs.Transaction.{is_member}
use Rattle.lc_record.specs.declared.geometry.Geometry.{Geometry}
use Rattle.lc_record.specs.declared.record.Lock.{Lock}
use Rattle.lc_record.specs.declared.record.RangeData.{RangeData}
use Rattle.lc_record.specs.declared.record.Record.{Record}
use Rattle.lc_record.proofs.ListLemmas.{same_Bool as same-bool, or_again as or-same}
use Rattle.lc_range.specs.RangeSet.{LiesBefore, IsCanonical as AreRuns}
use Rattle.lc_range.specs.declared.range.Range.{Range}
use Rattle.lc_tx.specs.Prepared.{segments_of, with_number}
use Rattle.lc_tx.proofs.AscendLemmas.{set_is_ascending}
use Rattle.lc_rest.specs.Adopted.{IsInside}
use Rattle.lc_rest.proofs.OneRecord.{run_of}

abbrev Rises : List ℕ → Type 0
Rises xs = Chain (λ a b. a < b) xs

member-with : (k n : ℕ) (xs : List ℕ) → is_member k (with_number n xs) ≡ ((n == k) || is_member k xs)
member-with k n [] = refl
member-with k n (next ∷ xs) =
    elim (n == next) as (λ b. (n == next) ≡ b → is_member k (if b then next ∷ xs else n ∷ next ∷ xs) ≡ ((n == k) || ((next == k) || is_member k xs))) [
      | true ↦ λ e. let same : n ≡ next = eqb-true n next e in sym (ap (λ m. (m == k) || ((next == k) || is_member k xs)) same ∙ or-same (next == k) (is_member k xs))
      | false ↦ λ e. refl
    ] refl

-- the segments are those of the ranges
member-segments : (k : ℕ) (ranges : List RangeData) → is_member k (segments_of (map run_of ranges)) ≡ is_member k (map (λ (r : RangeData). r.segment) ranges)
member-segments k [] = refl
member-segments k (r ∷ ranges) = member-with k r.segment (segments_of (map run_of ranges)) ∙ ap (λ b. (r.segment == k) || b) (member-segments k ranges)

least : (run : Range) (runs : List Range) → LiesBefore run runs → (k : ℕ) → is_member k (segments_of runs) ≡ true → run.segment ≤ k
least run [] before k member = absurd (true≢false (sym member))
least run (next ∷ runs) before k member = elim (or_cases (next.segment == k) (is_member k (segments_of runs)) (sym (member-with k next.segment (segments_of runs)) ∙ member)) [
  | inl here ↦ let same : next.segment ≡ k = eqb-true next.segment k here in elim before.0 [
    | inl less ↦ omega (arith, less, same)
    | inr gap ↦ omega (arith, gap.0, same)
  ]
  | inr later ↦ least run runs before.1 k later
]

chain-with : (n : ℕ) (xs : List ℕ) → Rises xs → ((k : ℕ) → is_member k xs ≡ true → n ≤ k) → Rises (with_number n xs)
chain-with n [] rises low = tt
chain-with n (next ∷ xs) rises low =
    elim (n == next) as (λ b. (n == next) ≡ b → Rises (if b then next ∷ xs else n ∷ next ∷ xs)) [
      | true ↦ λ e. rises
      | false ↦ λ e.
          let most : n ≤ next = low next (ap (λ b. b || is_member next xs) (eq-eqb next next refl)) in
          let differ : n ≢ next = λ same. true≢false (sym (eq-eqb n next same) ∙ e) in
          (omega (arith, most, differ), rises)
    ] refl

segments-rise : (runs : List Range) → AreRuns runs → Rises (segments_of runs)
segments-rise [] runs = tt
segments-rise (run ∷ runs) are = chain-with run.segment (segments_of runs) (segments-rise runs are.2) (least run runs are.1)

-- the locks

locks-rise : (locks : List Lock) → Chain (λ a b. a.segment < b.segment) locks → Rises (map (λ (l : Lock). l.segment) locks)
locks-rise [] chain = tt
locks-rise (a ∷ []) chain = tt
locks-rise (a ∷ b ∷ locks) chain = (chain.0, locks-rise (b ∷ locks) chain.1)

pub lock-member : (s : ℕ) (locks : List Lock) → Locks s locks → is_member s (map (λ (l : Lock). l.segment) locks) ≡ true
lock-member s [] is = absurd is
lock-member s (l ∷ locks) is = elim is [
  | inl same ↦ ap (λ b. b || is_member s (map (λ (l : Lock). l.segment) locks)) (eq-eqb l.segment s same)
  | inr later ↦ or_right (l.segment == s) _ (lock-member s locks later)
]

pub member-lock : (s : ℕ) (locks : List Lock) → is_member s (map (λ (l : Lock). l.segment) locks) ≡ true → Locks s locks
member-lock s [] is = absurd (true≢false (sym is))
member-lock s (l ∷ locks) is = elim (or_cases (l.segment == s) (is_member s (map (λ (l : Lock). l.segment) locks)) is) [
  | inl same ↦ inl (eqb-true l.segment s same)
  | inr later ↦ inr (member-lock s locks later)
]

pub write-member : (s : ℕ) (ranges : List RangeData) → Writes s ranges → is_member s (map (λ (l : RangeData). l.segment) ranges) ≡ true
write-member s [] is = absurd is
write-member s (l ∷ ranges) is = elim is [
  | inl same ↦ ap (λ b. b || is_member s (map (λ (l : RangeData). l.segment) ranges)) (eq-eqb l.segment s same)
  | inr later ↦ or_right (l.segment == s) _ (write-member s ranges later)
]

pub member-write : (s : ℕ) (ranges : List RangeData) → is_member s (map (λ (l : RangeData). l.segment) ranges) ≡ true → Writes s ranges
member-write s [] is = absurd (true≢false (sym is))
member-write s (l ∷ ranges) is = elim (or_cases (l.segment == s) (is_member s (map (λ (l : RangeData). l.segment) ranges)) is) [
  | inl same ↦ inl (eqb-true l.segment s same)
  | inr later ↦ inr (member-write s ranges later)
]

pub member-inside : (g : Geometry) (ranges : List RangeData) → All (IsInside g) ranges → (s : ℕ) → is_member s (map (λ (l : RangeData). l.segment) ranges) ≡ true → (1 ≤ s) × (s ≤ g.segments)
member-inside g [] all s is = absurd (true≢false (sym is))
member-inside g (r ∷ ranges) all s is = elim (or_cases (r.segment == s) (is_member s (map (λ (l : RangeData). l.segment) ranges)) is) [
  | inl here ↦ let inside : IsInside g r = All-head (IsInside g) r ranges all in let same : r.segment ≡ s = eqb-true r.segment s here in let first = inside.first in let last = inside.last in (omega (arith, same, first), omega (arith, same, last))
  | inr later ↦ member-inside g ranges (All-tail (IsInside g) r ranges all) s later
]

pub locks-segments : (g : Geometry) (r : Record) → IsCanonical r → All (IsInside g) r.ranges → AreRuns (map run_of r.ranges)
    → map (λ (l : Lock). l.segment) r.locks ≡ segments_of (map run_of r.ranges)
locks-segments g r canonical inside runs =
    set_is_ascending g (map (λ (l : RangeData). l.segment) r.ranges) (map (λ (l : Lock). l.segment) r.locks)
    (record { ascends = locks-rise r.locks canonical.locks_ascend; same = λ n. same-bool _ _ (λ is. write-member n r.ranges ((canonical.same_segments n).0 (member-lock n r.locks is))) (λ is. lock-member n r.locks ((canonical.same_segments n).1 (member-write n r.ranges is))) }) (member-inside g r.ranges inside)
    ∙ sym (set_is_ascending g (map (λ (l : RangeData). l.segment) r.ranges) (segments_of (map run_of r.ranges))
    (record { ascends = segments-rise (map run_of r.ranges) runs; same = λ n. member-segments n r.ranges }) (member-inside g r.ranges inside))

pub locks-next : (numbers : ℕ → ℕ) (locks : List Lock) → All (λ (lock : Lock). lock.seq ≡ numbers lock.segment + 1) locks
    → map (λ (s : ℕ). record { segment = s; seq = numbers s + 1 }) (map (λ (l : Lock). l.segment) locks) ≡ locks
locks-next numbers [] all = refl
locks-next numbers (l ∷ locks) all =
    ap (λ n. record { segment = l.segment; seq = n } ∷ map (λ (s : ℕ). record { segment = s; seq = numbers s + 1 }) (map (λ (l : Lock). l.segment) locks)) (sym (All-head (λ (lock : Lock). lock.seq ≡ numbers lock.segment + 1) l locks all))
    ∙ ap (λ rest. l ∷ rest) (locks-next numbers locks (All-tail (λ (lock : Lock). lock.seq ≡ numbers lock.segment + 1) l locks all))

-- the segment of each lock is one of theirs
pub self-member : (locks : List Lock) → All (λ (lock : Lock). is_member lock.segment (map (λ (l : Lock). l.segment) locks) ≡ true) locks
self-member [] = All-nil (λ (lock : Lock). is_member lock.segment [] ≡ true)
self-member (l ∷ locks) =
    All-cons (λ (lock : Lock). is_member lock.segment (map (λ (m : Lock). m.segment) (l ∷ locks)) ≡ true) l locks
    (ap (λ b. b || is_member l.segment (map (λ (m : Lock). m.segment) locks)) (eq-eqb l.segment l.segment refl))
    (λ k d less. or_right _ _ (self-member locks k d less))

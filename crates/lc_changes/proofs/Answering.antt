-- What is answered of set positions is what the machine's rows answer of a transaction that set them.
use Rattle.std.proofs.Common.{◌≡◌, ℕ, zero, suc, ◌+◌, ◌<◌, ◌≤◌, Bool, true, false, not, ◌==◌, nat_le, List, [], ◌∷◌, map, length, replicate, Option, Some, None, refl, sym, ◌∙◌, ap, subst, inl, inr, arith, true≢false, eqb-true, eq-eqb, ne_eqb}
use Rattle.std.specs.Prelude.{◌↔◌}
use Rattle.std.proofs.lemmas.Bool.{false≢true, leb-false, leb-true, le-leb}
use Rattle.lc_record.specs.Content.{segment_of}
use Rattle.lc_record.specs.Transaction.{Marks, Transaction, all_set, locks}
use Rattle.lc_record.specs.Marks.{marked, ranges}
use Rattle.lc_record.specs.Geometry.{segment_len}
use Rattle.lc_record.specs.declared.geometry.Geometry.{Geometry}
use Rattle.lc_record.proofs.LockLemmas.{lock_holds}
use Rattle.lc_range.specs.RangeSet.{AddsPositions, NeedsRunsAbove}
use Rattle.lc_range.specs.declared.range.Range.{Range}
use Rattle.lc_tx.proofs.MarkLemmas.{canonical_all, count_all, has_positions, runs_of, set_is_runs}
use Rattle.lc_tx.proofs.StandsLemmas.{each-set, marked-marks, marks-marked, set-each}
use Rattle.lc_model.specs.Refusals.{refuse_if, set_range_refusal, write_refusal}
use Rattle.lc_model.specs.Sound.{IsProper}
use Rattle.lc_model.specs.declared.refusal.Refusal.{Refusal}
use Rattle.lc_model.specs.declared.refusal.Refusal.TheVariants.{EmptyRange, NoRange, OutOfSegment, TooManyRanges}
use Rattle.lc_changes.specs.Calls.{AreRangesOf}
use Rattle.lc_changes.specs.Setting.{AreSet}

-- Refusals in turn

abbrev of_set : Bool → Bool → Bool → Option Refusal
of_set empty inside few = refuse_if empty EmptyRange (refuse_if (not inside) (OutOfSegment None) (refuse_if (not few) TooManyRanges None))

abbrev of_write : Bool → Bool → Option Refusal
of_write inside set = refuse_if (not inside) (OutOfSegment None) (refuse_if (not set) NoRange None)

set-empty : (a b c : Bool) → (of_set a b c ≡ Some EmptyRange) ↔ (a ≡ true)
set-empty true b c = ((λ e. refl), (λ h. refl))
set-empty false false c = ((λ e. absurd (let never : Some (OutOfSegment None) ≡ Some EmptyRange = e in cc)), (λ h. absurd (false≢true h)))
set-empty false true false = ((λ e. absurd (let never : Some TooManyRanges ≡ Some EmptyRange = e in cc)), (λ h. absurd (false≢true h)))
set-empty false true true = ((λ e. absurd (let never : None ≡ Some EmptyRange = e in cc)), (λ h. absurd (false≢true h)))

set-outside : (a b c : Bool) → (of_set a b c ≡ Some (OutOfSegment None)) ↔ ((a ≡ false) × (b ≡ false))
set-outside true b c = ((λ e. absurd (let never : Some EmptyRange ≡ Some (OutOfSegment None) = e in cc)), (λ h. absurd (true≢false h.0)))
set-outside false false c = ((λ e. (refl, refl)), (λ h. refl))
set-outside false true false = ((λ e. absurd (let never : Some TooManyRanges ≡ Some (OutOfSegment None) = e in cc)), (λ h. absurd (true≢false h.1)))
set-outside false true true = ((λ e. absurd (let never : None ≡ Some (OutOfSegment None) = e in cc)), (λ h. absurd (true≢false h.1)))

set-many : (a b c : Bool) → (of_set a b c ≡ Some TooManyRanges) ↔ ((a ≡ false) × (b ≡ true) × (c ≡ false))
set-many true b c = ((λ e. absurd (let never : Some EmptyRange ≡ Some TooManyRanges = e in cc)), (λ h. absurd (true≢false h.0)))
set-many false false c = ((λ e. absurd (let never : Some (OutOfSegment None) ≡ Some TooManyRanges = e in cc)), (λ h. absurd (false≢true h.1)))
set-many false true false = ((λ e. (refl, refl, refl)), (λ h. refl))
set-many false true true = ((λ e. absurd (let never : None ≡ Some TooManyRanges = e in cc)), (λ h. absurd (true≢false h.2)))

write-outside : (b c : Bool) → (of_write b c ≡ Some (OutOfSegment None)) ↔ (b ≡ false)
write-outside false c = ((λ e. refl), (λ h. refl))
write-outside true false = ((λ e. absurd (let never : Some NoRange ≡ Some (OutOfSegment None) = e in cc)), (λ h. absurd (true≢false h)))
write-outside true true = ((λ e. absurd (let never : None ≡ Some (OutOfSegment None) = e in cc)), (λ h. absurd (true≢false h)))

write-unset : (b c : Bool) → (of_write b c ≡ Some NoRange) ↔ ((b ≡ true) × (c ≡ false))
write-unset false c = ((λ e. absurd (let never : Some (OutOfSegment None) ≡ Some NoRange = e in cc)), (λ h. absurd (false≢true h.0)))
write-unset true false = ((λ e. (refl, refl)), (λ h. refl))
write-unset true true = ((λ e. absurd (let never : None ≡ Some NoRange = e in cc)), (λ h. absurd (true≢false h.1)))

set-row : (g : Geometry) (t : Transaction) (segment offset len : ℕ) → locks t segment ≡ true
    → set_range_refusal g t segment offset len ≡ of_set (len == 0) (nat_le (offset + len) (segment_len g)) (nat_le (ranges (marked t segment offset len).marks) 64)
set-row g t segment offset len lock = rw lock refl

write-row : (g : Geometry) (t : Transaction) (segment offset : ℕ) (bytes : List ℕ) → locks t segment ≡ true
    → write_refusal g t segment offset bytes ≡ of_write (nat_le (offset + length bytes) (segment_len g)) (all_set offset (length bytes) (segment_of segment t.marks))
write-row g t segment offset bytes lock = rw lock refl

-- Tests

some-bytes : (len : ℕ) → ((len == 0) ≡ false) ↔ (0 < len)
some-bytes len = (
  (λ e. positive len e),
  (λ more. ne_eqb len 0 (λ e. omega (arith, e, more))),
)
  where
    positive : (n : ℕ) → (n == 0) ≡ false → 0 < n
    positive zero e = absurd (true≢false e)
    positive (suc n) e = omega arith

above : (a b : ℕ) → (nat_le a b ≡ false) ↔ (b < a)
above a b = (
  (λ e. leb-false a b e),
  (λ less. elim (nat_le a b) as (λ c. nat_le a b ≡ c → c ≡ false) [ true ↦ λ e. absurd (let low = leb-true a b e in omega (arith, low, less)) | false ↦ λ e. refl ] refl),
)

pub empty-range : (g : Geometry) (t : Transaction) (segment offset len : ℕ) → locks t segment ≡ true → (set_range_refusal g t segment offset len ≡ Some EmptyRange) ↔ (len ≡ 0)
empty-range g t segment offset len lock =
    let row = set-row g t segment offset len lock in
    let is = set-empty (len == 0) (nat_le (offset + len) (segment_len g)) (nat_le (ranges (marked t segment offset len).marks) 64) in
    ((λ e. eqb-true len 0 (is.0 (sym row ∙ e))), (λ none. row ∙ is.1 (eq-eqb len 0 none)))

pub outside-range : (g : Geometry) (t : Transaction) (segment offset len : ℕ) → locks t segment ≡ true → (set_range_refusal g t segment offset len ≡ Some (OutOfSegment None)) ↔ ((0 < len) × (segment_len g < offset + len))
outside-range g t segment offset len lock =
    let row = set-row g t segment offset len lock in
    let is = set-outside (len == 0) (nat_le (offset + len) (segment_len g)) (nat_le (ranges (marked t segment offset len).marks) 64) in (
      (λ e. let both = is.0 (sym row ∙ e) in ((some-bytes len).0 both.0, (above (offset + len) (segment_len g)).0 both.1)),
      (λ both. row ∙ is.1 ((some-bytes len).1 both.0, (above (offset + len) (segment_len g)).1 both.1)),
    )

-- Positions

long-at : (s n l : ℕ) (marks : Marks) → map length marks ≡ replicate n l → 1 ≤ s → s ≤ n → length (segment_of s marks) ≡ l
long-at s zero l marks shape low high = absurd (omega (arith, low, high))
long-at s (suc n) l [] shape low high = absurd cc
long-at zero (suc n) l (first ∷ marks) shape low high = absurd (omega (arith, low))
long-at (suc zero) (suc n) l (first ∷ marks) shape low high = cc
long-at (suc (suc i)) (suc n) l (first ∷ marks) shape low high = (let behind : map length marks ≡ replicate n l = cc in long-at (suc i) n l marks behind (omega arith) (omega (arith, high)))

pub long : (g : Geometry) (t : Transaction) (segment : ℕ) → IsProper g t → locks t segment ≡ true → length (segment_of segment t.marks) ≡ segment_len g
long g t segment proper lock =
    let within = proper.segments_known segment (lock_holds t segment lock) in
    long-at segment g.segments (segment_len g) t.marks proper.shaped within.0 within.1

pub sets-range : (g : Geometry) (t : Transaction) (set later : List Range) (segment offset len : ℕ) → IsProper g t → AreRangesOf t.marks set → locks t segment ≡ true → offset + len ≤ segment_len g → AddsPositions set segment offset len later
    → AreRangesOf (marked t segment offset len).marks later
sets-range g t set later segment offset len proper are lock fits adds s k = (
  (λ has. marks-marked t segment offset len s k (elim ((adds s k).0 has) [
    | inl old ↦ inl ((are s k).0 old)
    | inr range ↦ inr (range.0, range.1, range.2, let is = long g t segment proper lock in omega (arith, range.2, fits, is))
  ])),
  (λ now. (adds s k).1 (elim (marked-marks t segment offset len s k now) [
    | inl old ↦ inl ((are s k).1 old)
    | inr range ↦ inr range
  ])),
)

more-runs : (g : Geometry) (t : Transaction) (set : List Range) (segment offset len : ℕ) → IsProper g t → AreRangesOf t.marks set → locks t segment ≡ true → offset + len ≤ segment_len g
    → NeedsRunsAbove 64 set segment offset len ↔ (64 < ranges (marked t segment offset len).marks)
more-runs g t set segment offset len proper are lock fits = (
  (λ needs.
      let same : needs.0 ≡ runs_of 1 (marked t segment offset len).marks = set_is_runs needs.0 (marked t segment offset len).marks needs.1 (sets-range g t set needs.0 segment offset len proper are lock fits needs.2) in
      subst (λ (n : ℕ). 64 < n) (ap length same ∙ count_all 1 (marked t segment offset len).marks) needs.3),
  (λ many. (runs_of 1 (marked t segment offset len).marks, canonical_all 1 (marked t segment offset len).marks, adds, subst (λ (n : ℕ). 64 < n) (sym (count_all 1 (marked t segment offset len).marks)) many)),
)
  where
    adds : AddsPositions set segment offset len (runs_of 1 (marked t segment offset len).marks)
    adds s k = (
      (λ has. elim (marked-marks t segment offset len s k ((has_positions (marked t segment offset len).marks s k).0 has)) [
        | inl old ↦ inl ((are s k).1 old)
        | inr range ↦ inr range
      ]),
      (λ has. (has_positions (marked t segment offset len).marks s k).1 (marks-marked t segment offset len s k (elim has [
        | inl old ↦ inl ((are s k).0 old)
        | inr range ↦ inr (range.0, range.1, range.2, let is = long g t segment proper lock in omega (arith, range.2, fits, is))
      ]))),
    )

pub many-ranges : (g : Geometry) (t : Transaction) (set : List Range) (segment offset len : ℕ) → IsProper g t → AreRangesOf t.marks set → locks t segment ≡ true
    → (set_range_refusal g t segment offset len ≡ Some TooManyRanges) ↔ ((0 < len) × (offset + len ≤ segment_len g) × NeedsRunsAbove 64 set segment offset len)
many-ranges g t set segment offset len proper are lock =
    let row = set-row g t segment offset len lock in
    let is = set-many (len == 0) (nat_le (offset + len) (segment_len g)) (nat_le (ranges (marked t segment offset len).marks) 64) in (
      (λ e.
          let each = is.0 (sym row ∙ e) in
          let fits : offset + len ≤ segment_len g = leb-true (offset + len) (segment_len g) each.1 in
          ((some-bytes len).0 each.0, fits, (more-runs g t set segment offset len proper are lock fits).1 ((above (ranges (marked t segment offset len).marks) 64).0 each.2))),
      (λ each. row ∙ is.1 (
        (some-bytes len).1 each.0,
        le-leb (offset + len) (segment_len g) each.1,
        (above (ranges (marked t segment offset len).marks) 64).1 ((more-runs g t set segment offset len proper are lock each.1).0 each.2),
      )),
    )

pub outside-write : (g : Geometry) (t : Transaction) (segment offset : ℕ) (bytes : List ℕ) → locks t segment ≡ true → (write_refusal g t segment offset bytes ≡ Some (OutOfSegment None)) ↔ (segment_len g < offset + length bytes)
outside-write g t segment offset bytes lock =
    let row = write-row g t segment offset bytes lock in
    let is = write-outside (nat_le (offset + length bytes) (segment_len g)) (all_set offset (length bytes) (segment_of segment t.marks)) in
    ((λ e. (above (offset + length bytes) (segment_len g)).0 (is.0 (sym row ∙ e))), (λ past. row ∙ is.1 ((above (offset + length bytes) (segment_len g)).1 past)))

unset : (t : Transaction) (set : List Range) (segment offset len : ℕ) → AreRangesOf t.marks set → (all_set offset len (segment_of segment t.marks) ≡ false) ↔ (AreSet set segment offset len → ⊥)
unset t set segment offset len are = (
  (λ e all. true≢false (sym (each-set offset len (segment_of segment t.marks) (λ k low high. (are segment k).0 (all k low high))) ∙ e)),
  (λ none. elim (all_set offset len (segment_of segment t.marks)) as (λ b. all_set offset len (segment_of segment t.marks) ≡ b → b ≡ false) [
    | true ↦ λ e. absurd (none (λ k low high. (are segment k).1 (set-each offset len k (segment_of segment t.marks) e low high)))
    | false ↦ λ e. refl
  ] refl),
)

pub unset-write : (g : Geometry) (t : Transaction) (set : List Range) (segment offset : ℕ) (bytes : List ℕ) → AreRangesOf t.marks set → locks t segment ≡ true
    → (write_refusal g t segment offset bytes ≡ Some NoRange) ↔ ((offset + length bytes ≤ segment_len g) × (AreSet set segment offset (length bytes) → ⊥))
unset-write g t set segment offset bytes are lock =
    let row = write-row g t segment offset bytes lock in
    let is = write-unset (nat_le (offset + length bytes) (segment_len g)) (all_set offset (length bytes) (segment_of segment t.marks)) in
    let none = unset t set segment offset (length bytes) are in (
      (λ e. let both = is.0 (sym row ∙ e) in (leb-true (offset + length bytes) (segment_len g) both.0, none.0 both.1)),
      (λ both. row ∙ is.1 (le-leb (offset + length bytes) (segment_len g) both.0, none.1 both.1)),
    )

-- What is refused for no reason that images give is not refused

set-none : (a b c : Bool) → (of_set a b c ≡ Some EmptyRange → ⊥) → (of_set a b c ≡ Some (OutOfSegment None) → ⊥) → (of_set a b c ≡ Some TooManyRanges → ⊥) → of_set a b c ≡ None
set-none true b c empty outside many = absurd (empty refl)
set-none false false c empty outside many = absurd (outside refl)
set-none false true false empty outside many = absurd (many refl)
set-none false true true empty outside many = refl

write-none : (b c : Bool) → (of_write b c ≡ Some (OutOfSegment None) → ⊥) → (of_write b c ≡ Some NoRange → ⊥) → of_write b c ≡ None
write-none false c outside unset = absurd (outside refl)
write-none true false outside unset = absurd (unset refl)
write-none true true outside unset = refl

pub open-range : (g : Geometry) (t : Transaction) (segment offset len : ℕ) → locks t segment ≡ true → (set_range_refusal g t segment offset len ≡ Some EmptyRange → ⊥)
    → (set_range_refusal g t segment offset len ≡ Some (OutOfSegment None) → ⊥) → (set_range_refusal g t segment offset len ≡ Some TooManyRanges → ⊥) → set_range_refusal g t segment offset len ≡ None
open-range g t segment offset len lock empty outside many =
    let row = set-row g t segment offset len lock in
    row ∙ set-none (len == 0) (nat_le (offset + len) (segment_len g)) (nat_le (ranges (marked t segment offset len).marks) 64) (λ e. empty (row ∙ e)) (λ e. outside (row ∙ e)) (λ e. many (row ∙ e))

pub open-write : (g : Geometry) (t : Transaction) (segment offset : ℕ) (bytes : List ℕ) → locks t segment ≡ true → (write_refusal g t segment offset bytes ≡ Some (OutOfSegment None) → ⊥)
    → (write_refusal g t segment offset bytes ≡ Some NoRange → ⊥) → write_refusal g t segment offset bytes ≡ None
open-write g t segment offset bytes lock outside unset =
    let row = write-row g t segment offset bytes lock in
    row ∙ write-none (nat_le (offset + length bytes) (segment_len g)) (all_set offset (length bytes) (segment_of segment t.marks)) (λ e. outside (row ∙ e)) (λ e. unset (row ∙ e))

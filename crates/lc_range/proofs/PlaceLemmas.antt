-- The place of a range among a set's runs.
use Rattle.std.proofs.Common.{◌≡◌, ℕ, zero, suc, pred, ◌-◌, ◌<◌, ◌≤◌, Bool, true, false, ◌||◌, List, [], ◌∷◌, ◌++◌, length, get_or, take, drop, refl, sym, ap, ◌∙◌, inl, inr, arith}
use Rattle.std.proofs.Math.Bool.{or-false}
use Rattle.std.specs.Prelude.{◌↔◌, Option, Some, None, slice_get}
use Rattle.std.specs.List.{AllWithin}
use Rattle.std.specs.List.Sorted.{IsPartitionedBy, IsPartitionPoint}
use Rattle.std.proofs.lemmas.Bool.{cases_Bool, cond-true, cond-false}
use Rattle.std.proofs.lemmas.List.{get_or_push, length-append}
use Rattle.std.proofs.lemmas.Option.{slice_get-get_or}
use Rattle.lc_range.specs.Range.{IsBefore}
use Rattle.lc_range.specs.RangeSet.{LiesBefore, IsCanonical}
use Rattle.lc_range.specs.Walk.{is_before, is_holding, absorbed, merged, some_holds}
use Rattle.lc_range.specs.declared.range.Range.{Range}
use Rattle.lc_range.proofs.RangeLemmas.{Holds, before_is, not_before, before_before, holding_is}

before_from : (a b : Range) → IsBefore a b → is_before a b ≡ true
before_from a b before = elim (cases_Bool (is_before a b)) [ inl e ↦ e | inr e ↦ absurd (not_before a b e before) ]

lies_at : (run : Range) (runs : List Range) (i : ℕ) (d : Range) → LiesBefore run runs → i < length runs → IsBefore run (get_or runs i d)
lies_at run [] i d before within = absurd (omega (arith, within))
lies_at run (next ∷ runs) zero d before within = before.0
lies_at run (next ∷ runs) (suc i) d before within = lies_at run runs i d before.1 (omega (arith, within))

-- no run that lies before a range comes after one that does not
pub partitioned : (runs : List Range) (range : Range) → IsCanonical runs → IsPartitionedBy (λ run. is_before run range) runs
partitioned [] range c i j d le within e = absurd (omega (arith, within))
partitioned (run ∷ runs) range c zero zero d le within e = e
partitioned (run ∷ runs) range c zero (suc j) d le within e =
    before_from run range (before_before run (get_or runs j d) range (lies_at run runs j d c.1 (omega (arith, within))) (before_is (get_or runs j d) range e))
partitioned (run ∷ runs) range c (suc i) zero d le within e = absurd (omega (arith, le))
partitioned (run ∷ runs) range c (suc i) (suc j) d le within e = partitioned runs range c.2 i j d (omega (arith, le)) (omega (arith, within)) e

-- so all lie before it where the last does
pub last_tells : (runs : List Range) (range last : Range) → IsCanonical runs → Some last ≡ slice_get runs (length runs - 1)
    → (is_before last range ≡ true) ↔ AllWithin (λ run. is_before run range ≡ true) runs 0 (length runs)
last_tells [] range last c e = absurd cc
last_tells (run ∷ runs) range last c e = (
  (λ before k d low high. partitioned (run ∷ runs) range c k end d (omega arith) (omega arith) (ap (λ (r : Range). is_before r range) (sym (at d)) ∙ before)),
  (λ all. ap (λ (r : Range). is_before r range) (at run) ∙ all end run (omega arith) (omega arith)),
)
  where
    end : ℕ
    end = length (run ∷ runs) - 1

    unwrap_to : Range → Option Range → Range
    unwrap_to d (Some l) = l
    unwrap_to d None = d

    at : (d : Range) → last ≡ get_or (run ∷ runs) end d
    at d = ap (unwrap_to d) (e ∙ slice_get-get_or (run ∷ runs) end d (omega arith))

lies_front : (run : Range) (front rest : List Range) → LiesBefore run (front ++ rest) → LiesBefore run front
lies_front run [] rest lies = tt
lies_front run (next ∷ front) rest lies = (lies.0, lies_front run front rest lies.1)

pub canonical_front : (front rest : List Range) → IsCanonical (front ++ rest) → IsCanonical front
canonical_front [] rest c = tt
canonical_front (run ∷ front) rest c = (c.0, lies_front run front rest c.1, canonical_front front rest c.2)

at_front : (front rest : List Range) (k : ℕ) (d : Range) → k < length front → get_or (front ++ rest) k d ≡ get_or front k d
at_front [] rest k d within = absurd (omega (arith, within))
at_front (run ∷ front) rest zero d within = refl
at_front (run ∷ front) rest (suc k) d within = at_front front rest k d (omega (arith, within))

-- the place of a range after the last run
pub placed_behind : (runs front : List Range) (last range : Range) → runs ≡ front ++ last ∷ [] → IsCanonical runs → is_before last range ≡ true
    → IsPartitionPoint (λ run. is_before run range ≡ true) (λ run. is_before run range ≡ false) runs (length runs)
placed_behind runs front last range e c before = (
  (λ k d low high.
      partitioned runs range c k (length front) d (omega (arith, high, ap length e, length-append front (last ∷ []))) (omega (arith, ap length e, length-append front (last ∷ [])))
      (ap (λ (l : List Range). is_before (get_or l (length front) d) range) e ∙ ap (λ (r : Range). is_before r range) (get_or_push front last d (length front) refl) ∙ before)),
  (λ k d low high. absurd (omega (arith, low, high))),
)

-- and of one after all but that
pub placed_at_last : (runs front : List Range) (last range : Range) → runs ≡ front ++ last ∷ [] → is_before last range ≡ false
    → AllWithin (λ run. is_before run range ≡ true) front 0 (length front)
    → IsPartitionPoint (λ run. is_before run range ≡ true) (λ run. is_before run range ≡ false) runs (length front)
placed_at_last runs front last range e not all = (
  (λ k d low high. ap (λ (l : List Range). is_before (get_or l k d) range) e ∙ ap (λ (r : Range). is_before r range) (at_front front (last ∷ []) k d high) ∙ all k d low high),
  (λ k d low high.
      ap (λ (l : List Range). is_before (get_or l k d) range) e
      ∙ ap (λ (r : Range). is_before r range) (get_or_push front last d k (omega (arith, low, high, ap length e, length-append front (last ∷ [])))) ∙ not),
)

-- where a range comes after the runs before it
pub merged_at : (runs : List Range) (range : Range) (i : ℕ) → i ≤ length runs → IsPartitionPoint (λ run. is_before run range ≡ true) (λ run. is_before run range ≡ false) runs i
    → take i runs ++ absorbed range (drop i runs) ≡ merged range runs
merged_at [] range zero within place = refl
merged_at [] range (suc i) within place = absurd (omega (arith, within))
merged_at (run ∷ runs) range zero within place = sym (cond-false (is_before run range) (run ∷ merged range runs) (absorbed range (run ∷ runs)) (place.1 0 run (omega arith) (omega arith)))
merged_at (run ∷ runs) range (suc i) within place =
    ap (λ (l : List Range). run ∷ l) (merged_at runs range i (omega (arith, within)) (λ k d low high. place.0 (suc k) d (omega arith) (omega (arith, high)), λ k d low high. place.1 (suc k) d (omega (arith, low)) (omega (arith, high))))
    ∙ sym (cond-true (is_before run range) (run ∷ merged range runs) (absorbed range (run ∷ runs)) (place.0 0 run (omega arith) (omega arith)))

-- a run before a range does not hold it
held_not_before : (run range : Range) → is_before run range ≡ true → is_holding run range ≡ false
held_not_before run range before = elim (cases_Bool (is_holding run range)) [
  | inl e ↦
      let holds : Holds run range = holding_is run range e in
      absurd (elim (before_is run range before) [ inl less ↦ omega (arith, less, holds.segment) | inr both ↦ omega (arith, both.1, holds.end) ])
  | inr e ↦ e
]

-- one after a run that does not lie before the range does not either
none_behind : (run range : Range) (runs : List Range) → LiesBefore run runs → is_before run range ≡ false → some_holds runs range ≡ false
none_behind run range [] lies not = refl
none_behind run range (next ∷ runs) lies not = elim (cases_Bool (is_holding next range)) [
  | inl e ↦
      let holds : Holds next range = holding_is next range e in
      absurd (not_before run range not (elim lies.0 [ inl less ↦ inl (omega (arith, less, holds.segment)) | inr both ↦ inr (both.0 ∙ holds.segment, omega (arith, both.1, holds.start)) ]))
  | inr e ↦ ap (λ (b : Bool). b || some_holds runs range) e ∙ none_behind run range runs lies.1 not
]

-- so the run at the place of a range alone can hold it
pub held_at : (runs : List Range) (range : Range) (i : ℕ) (d : Range) → IsCanonical runs → IsPartitionPoint (λ run. is_before run range ≡ true) (λ run. is_before run range ≡ false) runs i
    → i < length runs → is_holding (get_or runs i d) range ≡ some_holds runs range
held_at [] range i d c place within = absurd (omega (arith, within))
held_at (run ∷ runs) range zero d c place within =
    sym (ap (λ (b : Bool). is_holding run range || b) (none_behind run range runs c.1 (place.1 0 run (omega arith) (omega arith))) ∙ or-false (is_holding run range))
held_at (run ∷ runs) range (suc i) d c place within =
    held_at runs range i d c.2 (λ k e low high. place.0 (suc k) e (omega arith) (omega (arith, high)), λ k e low high. place.1 (suc k) e (omega (arith, low)) (omega (arith, high))) (omega (arith, within))
    ∙ sym (ap (λ (b : Bool). b || some_holds runs range) (held_not_before run range (place.0 0 run (omega arith) (omega arith))))

pub held_past : (runs : List Range) (range : Range) (i : ℕ) → IsPartitionPoint (λ run. is_before run range ≡ true) (λ run. is_before run range ≡ false) runs i
    → length runs ≤ i → some_holds runs range ≡ false
held_past [] range i place past = refl
held_past (run ∷ runs) range i place past =
    ap (λ (b : Bool). b || some_holds runs range) (held_not_before run range (place.0 0 run (omega arith) (omega (arith, past))))
    ∙ held_past runs range (pred i) (λ k e low high. place.0 (suc k) e (omega arith) (omega (arith, high, past)), λ k e low high. place.1 (suc k) e (omega (arith, low, past)) (omega (arith, high))) (omega (arith, past))

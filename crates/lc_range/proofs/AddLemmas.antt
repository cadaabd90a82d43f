-- A set's runs after a range more.
use Rattle.std.proofs.Common.{◌≡◌, ◌⊎◌, ℕ, ◌+◌, zero, suc, ◌<◌, ◌≤◌, true, false, inl, inr, refl, List, [], ◌∷◌, ◌++◌, length, take, drop, eqb, sym, subst, ap, arith, length-append, length-take, length-drop}
use Rattle.std.specs.Prelude.{◌↔◌, Result, Ok, Err, OnOk, OnErr, IsOk}
use Rattle.std.specs.Result.{is_err}
use Rattle.std.proofs.lemmas.Bool.{cases_eq, cases_lt, eqb-true, eq-eqb}
use Rattle.lc_range.specs.Range.{HasPosition}
use Rattle.lc_range.specs.RangeSet.{Has, IsCanonical, EndWithin, AddsPositions, MissesSome, NeedsRunsAbove}
use Rattle.lc_range.specs.Walk.{merged, some_holds}
use Rattle.lc_range.specs.declared.range.Range.{Range}
use Rattle.lc_range.proofs.SetLemmas.{one_canonical, adds_merged, canonical_merged, ends_merged, held, holds_from}

module _ (old : List Range) (range : Range) (new : List Range) (c : IsCanonical old) (some : 1 ≤ range.len) (same : new ≡ merged range old) where
  pub adds : AddsPositions old range.segment range.offset range.len new
  adds = subst (λ (l : List Range). AddsPositions old range.segment range.offset range.len l) (sym same) (adds_merged range old c)

  pub canonical : IsCanonical new
  canonical = subst (λ (l : List Range). IsCanonical l) (sym same) (canonical_merged range old some c)

pub ends : (old : List Range) (range : Range) (new : List Range) (bound : ℕ) → new ≡ merged range old → range.offset + range.len ≤ bound → EndWithin old bound → EndWithin new bound
ends old range new bound same end within = subst (λ (l : List Range). EndWithin l bound) (sym same) (ends_merged range old bound end within)

-- a run in the place of others
pub length_replaced : (runs : List Range) (run : Range) (start end : ℕ) → start ≤ end → end ≤ length runs → length (take start runs ++ run ∷ drop end runs) + end ≡ length runs + start + 1
length_replaced runs run start end ordered within = omega (arith, length-append (take start runs) (run ∷ drop end runs), length-take start runs, length-drop end runs)

pub covers_iff : (runs : List Range) (range : Range) → IsCanonical runs → 1 ≤ range.len
    → (some_holds runs range ≡ true) ↔ ((k : ℕ) → range.offset ≤ k → k < range.offset + range.len → Has runs range.segment k)
covers_iff runs range c some = (held runs range, holds_from runs range c some)

pub empty_iff : (runs : List Range) → IsCanonical runs → (eqb (length runs) 0 ≡ true) ↔ ((s k : ℕ) → Has runs s k → ⊥)
empty_iff [] c = (λ e s k h. h, λ h. refl_true)
  where
    refl_true : eqb 0 0 ≡ true
    refl_true = eq-eqb 0 0 refl
empty_iff (run ∷ runs) c = (λ e. absurd (no_run (length runs) (eqb-true _ _ e)), λ h. absurd (h run.segment run.offset (inl (refl, omega arith, omega (arith, c.0)))))
  where
    no_run : (n : ℕ) → suc n ≡ 0 → ⊥
    no_run n e = omega (arith, e)

-- a result that is no error, and one that is
pub ok_gives : {T E P : Type 0} (r : Result T E) → is_err r ≡ false → OnOk r P → P
ok_gives (Ok x) e p = p
ok_gives (Err y) e p = absurd cc

pub err_is_not_ok : {T E : Type 0} (r : Result T E) → is_err r ≡ true → IsOk r → ⊥
err_is_not_ok (Ok x) e p = cc
err_is_not_ok (Err y) e p = cc

pub err_gives : {T E P : Type 0} (r : Result T E) → is_err r ≡ true → OnErr r P → P
err_gives (Ok x) e p = absurd cc
err_gives (Err y) e p = p

pub on_err_of : {T E P : Type 0} (r : Result T E) → P → OnErr r P
on_err_of (Ok x) p = tt
on_err_of (Err y) p = p

pub no_room : (m n : ℕ) → (m ≤ n → ⊥) → n < m
no_room m n not = omega (arith, not)

-- Positions that a set misses

has_position : (range : Range) (s k : ℕ) → HasPosition range s k ⊎ (HasPosition range s k → ⊥)
has_position range s k = elim (cases_eq s range.segment) [
  | inr other ↦ inr (λ has. other has.0)
  | inl same ↦ elim (cases_lt k range.offset) [
    | inl before ↦ inr (λ has. omega (arith, before, has.1))
    | inr low ↦ elim (cases_lt k (range.offset + range.len)) [ inl high ↦ inl (same, low, high) | inr behind ↦ inr (λ has. omega (arith, behind, has.2)) ]
  ]
]

has_or_not : (runs : List Range) (s k : ℕ) → Has runs s k ⊎ (Has runs s k → ⊥)
has_or_not [] s k = inr (λ never. never)
has_or_not (run ∷ runs) s k = elim (has_position run s k) [
  | inl here ↦ inl (inl here)
  | inr not_here ↦ elim (has_or_not runs s k) [ inl later ↦ inl (inr later) | inr not_later ↦ inr (λ has. elim has [ inl here ↦ not_here here | inr later ↦ not_later later ]) ]
]

all_or_some : (runs : List Range) (s offset len : ℕ) → ((k : ℕ) → offset ≤ k → k < offset + len → Has runs s k) ⊎ MissesSome runs s offset len
all_or_some runs s offset zero = inl (λ k low high. absurd (omega (arith, low, high)))
all_or_some runs s offset (suc n) = elim (all_or_some runs s offset n) [
  | inr some ↦ inr (some.0, some.1, omega (arith, some.2), some.3)
  | inl all ↦ elim (has_or_not runs s (offset + n)) [
    | inr not ↦ inr (offset + n, omega arith, omega arith, not)
    | inl last ↦ inl (λ k low high. elim (cases_lt k (offset + n)) [
      | inl before ↦ all k low before
      | inr behind ↦ (let same : offset + n ≡ k = omega (arith, behind, high) in subst (λ (j : ℕ). Has runs s j) same last)
    ])
  ]
]

-- a set that needs more runs misses some of the positions
pub needs_misses : (runs : List Range) (s offset len : ℕ) → IsCanonical runs → NeedsRunsAbove (length runs) runs s offset len → MissesSome runs s offset len
needs_misses runs s offset len c needs = elim (all_or_some runs s offset len) [
  | inr some ↦ some
  | inl all ↦
      let same : needs.0 ≡ runs = one_canonical needs.0 runs needs.1 c (λ r k. (
        λ has. elim ((needs.2 r k).0 has) [ inl old ↦ old | inr new ↦ subst (λ (n : ℕ). Has runs n k) (sym new.0) (all k new.1 new.2) ],
        λ has. (needs.2 r k).1 (inl has),
      )) in
      absurd (omega (arith, needs.3, ap length same))
]

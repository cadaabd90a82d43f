-- A transaction's steps and an abort.
use Rattle.std.proofs.Common.{◌≡◌, ℕ, ◌+◌, ◌<◌, ◌≤◌, List, [], ◌∷◌, Option, Some, None, unwrap_or, refl, sym, ap, subst, ◌∙◌, inl, inr}
use Rattle.lc_range.specs.RangeSet.{Has}
use Rattle.lc_range.specs.Undo.{kept}
use Rattle.lc_range.specs.Steps.{State, start, IsStep, AreSteps}
use Rattle.lc_range.specs.declared.range.Range.{Range}
use Rattle.lc_range.proofs.KeepLemmas.{set_or_not}

-- a set position's first byte is kept, and the other positions are as they were
record Saves (before : ℕ → ℕ → ℕ) (now : State) : Type 0 where
  in_set : (s k : ℕ) → Has now.set s k → kept now.copies s k ≡ Some (before s k)
  none_kept : (s k : ℕ) → (Has now.set s k → ⊥) → kept now.copies s k ≡ None
  same : (s k : ℕ) → (Has now.set s k → ⊥) → now.content s k ≡ before s k

saves_start : (before : ℕ → ℕ → ℕ) → Saves before (start before)
saves_start before = record { in_set = λ s k never. absurd never; none_kept = λ s k not. refl; same = λ s k not. refl }

saves_step : (before : ℕ → ℕ → ℕ) (old new : State) (range : Range) → Saves before old → IsStep old new range → Saves before new
saves_step before old new range saves step = record {
  in_set = λ s k has. elim (set_or_not old.set s k) [
    | inl was ↦ step.keeps.first s k (before s k) (saves.in_set s k was)
    | inr not ↦ elim ((step.adds s k).0 has) [
      | inl was ↦ absurd (not was)
      | inr here ↦ at_segment s here.0 k not here.1 here.2
    ]
  ];
  none_kept = λ s k not. step.keeps.others s k (saves.none_kept s k (λ was. not ((step.adds s k).1 (inl was)))) (λ same low high. absurd (not ((step.adds s k).1 (inr (same, low, high)))));
  same = λ s k not. step.writes s k not ∙ saves.same s k (λ was. not ((step.adds s k).1 (inl was)));
}
  where
    fresh : (k : ℕ) → (Has old.set range.segment k → ⊥) → range.offset ≤ k → k < range.offset + range.len → kept new.copies range.segment k ≡ Some (before range.segment k)
    fresh k not low high = step.keeps.fresh k (saves.none_kept range.segment k not) low high not ∙ ap (λ (n : ℕ). Some n) (saves.same range.segment k not)

    at_segment : (s : ℕ) → s ≡ range.segment → (k : ℕ) → (Has old.set s k → ⊥) → range.offset ≤ k → k < range.offset + range.len → kept new.copies s k ≡ Some (before s k)
    at_segment s same = subst (λ (n : ℕ). (k : ℕ) → (Has old.set n k → ⊥) → range.offset ≤ k → k < range.offset + range.len → kept new.copies n k ≡ Some (before n k)) (sym same) fresh

saves_steps : (before : ℕ → ℕ → ℕ) (old new : State) (ranges : List Range) → Saves before old → AreSteps old ranges new → Saves before new
saves_steps before old new [] saves steps = subst (λ (state : State). Saves before state) steps saves
saves_steps before old new (range ∷ ranges) saves steps = saves_steps before steps.0 new ranges (saves_step before old steps.0 range saves steps.1) steps.2

restored : (before : ℕ → ℕ → ℕ) (now : State) → Saves before now → (s k : ℕ) → unwrap_or (kept now.copies s k) (now.content s k) ≡ before s k
restored before now saves s k = elim (set_or_not now.set s k) [
  | inl has ↦ ap (λ (o : Option ℕ). unwrap_or o (now.content s k)) (saves.in_set s k has)
  | inr not ↦ ap (λ (o : Option ℕ). unwrap_or o (now.content s k)) (saves.none_kept s k not) ∙ saves.same s k not
]

pub abort_restores : (before : ℕ → ℕ → ℕ) (ranges : List Range) (now : State) → AreSteps (start before) ranges now → (s k : ℕ) → unwrap_or (kept now.copies s k) (now.content s k) ≡ before s k
abort_restores before ranges now steps = restored before now (saves_steps before (start before) now ranges (saves_start before) steps)

-- The steps of the walks over a set's runs.
use Rattle.std.proofs.Common.{◌≡◌, ℕ, suc, zero, ◌+◌, ◌<◌, ◌≤◌, true, false, List, [], ◌∷◌, length, get_or, drop, ◌∙◌, ◌-◌, min, max, ap, sym, subst, arith}
use Rattle.std.proofs.lemmas.List.{at_drop_more, drop_all}
use Rattle.std.proofs.lemmas.Bool.{cond-true, cond-false}
use Rattle.lc_range.specs.RangeSet.{EndWithin}
use Rattle.lc_range.specs.Walk.{is_before, joined, absorbed}
use Rattle.lc_range.specs.declared.range.Range.{Range}

pub end_at : (runs : List Range) (bound i : ℕ) (d : Range) → EndWithin runs bound → i < length runs → (get_or runs i d).offset + (get_or runs i d).len ≤ bound
end_at [] bound i d ends within = absurd (omega arith)
end_at (run ∷ runs) bound zero d ends within = ends.0
end_at (run ∷ runs) bound (suc i) d ends within = end_at runs bound i d ends.1 (omega arith)

pub absorbed_more : (run : Range) (runs : List Range) (i : ℕ) (d : Range) → i < length runs → is_before run (get_or runs i d) ≡ false
    → absorbed run (drop i runs) ≡ absorbed (joined run (get_or runs i d)) (drop (i + 1) runs)
absorbed_more run runs i d within e = at_drop_more (absorbed run) runs i d within ∙ cond-false _ _ _ e

pub end_joined : (run next both : Range) (bound : ℕ) → both ≡ joined run next → run.offset + run.len < bound → next.offset + next.len < bound → both.offset + both.len < bound
end_joined run next both bound same end next_end =
    subst (λ (r : Range). r.offset + r.len < bound) (sym same) (below run.offset run.len next.offset next.len bound end next_end)
  where
    below : (i m j n bound : ℕ) → i + m < bound → j + n < bound → min i j + (max (i + m) (j + n) - min i j) < bound
    below i m j n bound one two = omega arith

-- a run that touches none of those from a place on
pub absorbed_last : (run : Range) (runs : List Range) (i : ℕ) → length runs ≤ i → absorbed run (drop i runs) ≡ run ∷ drop i runs
absorbed_last run runs i past =
    let none : drop i runs ≡ [] = drop_all i runs past in
    ap (absorbed run) none ∙ ap (λ (l : List Range). run ∷ l) (sym none)

pub absorbed_before : (run : Range) (runs : List Range) (i : ℕ) (d : Range) → i < length runs → is_before run (get_or runs i d) ≡ true → absorbed run (drop i runs) ≡ run ∷ drop i runs
absorbed_before run [] i d within before = absurd (omega (arith, within))
absorbed_before run (next ∷ runs) zero d within before = cond-true (is_before run next) (run ∷ next ∷ runs) (absorbed (joined run next) runs) before
absorbed_before run (next ∷ runs) (suc i) d within before = absorbed_before run runs i d (omega (arith, within)) before

-- What a transaction keeps is of set positions alone.
use Rattle.std.proofs.Common.{◌≡◌, ◌⊎◌, ℕ, ◌+◌, ◌<◌, ◌≤◌, List, None, sym, subst, inl, inr}
use Rattle.std.specs.Prelude.{IsSome}
use Rattle.lc_range.specs.RangeSet.{Has, AddsPositions}
use Rattle.lc_range.specs.Undo.{KeepsOld, OldBytes, kept}
use Rattle.lc_range.specs.declared.range.Range.{Range}
use Rattle.lc_range.proofs.KeepLemmas.{set_or_not}

-- nor is anything else kept with a range more
pub kept_alone : (copies more : List OldBytes) (set next : List Range) (segment offset len : ℕ) (image : ℕ → ℕ)
    → KeepsOld copies set segment offset len image more → AddsPositions set segment offset len next
    → ((s k : ℕ) → (Has set s k → ⊥) → kept copies s k ≡ None) → (s k : ℕ) → (Has next s k → ⊥) → kept more s k ≡ None
kept_alone copies more set next segment offset len image keeps adds alone s k apart =
    keeps.others s k (alone s k (λ has. apart ((adds s k).1 (inl has)))) (λ same low high. absurd (apart ((adds s k).1 (inr (same, low, high)))))

-- so what is kept is set
pub kept_has : (copies : List OldBytes) (set : List Range) → ((s k : ℕ) → (Has set s k → ⊥) → kept copies s k ≡ None) → (s k : ℕ) → IsSome (kept copies s k) → Has set s k
kept_has copies set alone s k some = elim (set_or_not set s k) [
  | inl has ↦ has
  | inr apart ↦ absurd (let none = subst (λ o. IsSome o) (alone s k apart) some in cc)
]

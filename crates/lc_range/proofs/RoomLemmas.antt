-- Whether a run more stands with a range.
use Rattle.std.proofs.Common.{◌≡◌, ℕ, ◌+◌, ◌<◌, ◌≤◌, Bool, true, false, List, [], ◌∷◌, length, sym, subst, ◌∙◌, inl, inr, arith}
use Rattle.std.specs.Prelude.{◌↔◌}
use Rattle.lc_range.specs.Touched.{IsTouched}
use Rattle.lc_range.specs.RangeSet.{Has, IsCanonical, EndWithin, NeedsRunsAbove}
use Rattle.lc_range.specs.Walk.{merged}
use Rattle.lc_range.specs.declared.range.Range.{Range}
use Rattle.lc_range.specs.declared.touched.Touched.{Touched}
use Rattle.lc_range.proofs.AddLemmas.{length_replaced, no_room}
use Rattle.lc_range.proofs.SetLemmas.{needs_above, above_needs}

-- how many runs stand where a range goes to its place
pub length_placed : (runs : List Range) (place : Touched) → IsTouched runs place → length (merged place.range runs) + place.end ≡ length runs + place.start + 1
length_placed runs place is =
    subst (λ (l : List Range). length l + place.end ≡ length runs + place.start + 1) is.added (length_replaced runs place.run place.start place.end is.ordered is.within)

module _ (runs : List Range) (range : Range) (place : Touched) (same : place.range ≡ range) (canonical : IsCanonical runs) (some : 1 ≤ range.len) (has : Bool)
    (room : (has ≡ true) ↔ (length (merged place.range runs) ≤ 64)) where
  -- where there is no room, too many runs would stand
  pub no_room_needs : has ≡ false → NeedsRunsAbove 64 runs range.segment range.offset range.len
  no_room_needs not =
      needs_above 64 range runs some canonical
      (subst (λ (r : Range). 64 < length (merged r runs)) same (no_room (length (merged place.range runs)) 64 (λ few. differ (sym (room.1 few) ∙ not))))
    where
      differ : true ≡ false → ⊥
      differ e = absurd cc

  pub room_needs : has ≡ true → NeedsRunsAbove 64 runs range.segment range.offset range.len → ⊥
  room_needs is needs =
      let few : length (merged range runs) ≤ 64 = subst (λ (r : Range). length (merged r runs) ≤ 64) same (room.0 is) in
      absurd (omega (arith, few, above_needs 64 range runs some canonical needs))

-- no run has a position at its end or after it
pub has_below : (runs : List Range) (bound s k : ℕ) → EndWithin runs bound → Has runs s k → k < bound
has_below [] bound s k ends has = absurd has
has_below (run ∷ runs) bound s k ends has = elim has [ inl here ↦ below run.offset run.len k bound here.2 ends.0 | inr later ↦ has_below runs bound s k ends.1 later ]
  where
    below : (i n k bound : ℕ) → k < i + n → i + n ≤ bound → k < bound
    below i n k bound one two = omega arith

-- Tokens that are taken out of a list in the order of their segments.
use Rattle.std.proofs.Common.{◌≡◌, ◌<◌, ◌+◌, ℕ, suc, List, [], ◌∷◌, Some, None, sym, ap, subst, ◌∙◌, arith, refl}
use Rattle.std.specs.Prelude.{IsSomeAnd, Option, option_map, slice_get}
use Rattle.lc_disk.specs.declared.area.Area.{Ghosts}
use Rattle.lc_record.specs.declared.geometry.Geometry.{Geometry}
use Rattle.lc_rest.specs.declared.segment_part.SegmentPart.{SegmentPart}
use Rattle.lc_node.specs.Refusals.{HasPages, HasToken, IsLeftOver, TakesOut, first_of}
use Rattle.lc_node.proofs.TakenOut.{first_left, inside, is_first_left, is_inside, left, left_all, outside, place_of, up_to, without, without_left}

module _ {D : Type 0} where
  abbrev pub segment_of : SegmentPart D → ℕ
  segment_of part = part.token.segment

  -- those that are left where the first token of each segment up to this one is taken out
  abbrev pub left_behind : ℕ → List (SegmentPart D) → List (SegmentPart D)
  left_behind place all = left segment_of (up_to place) all

  pub all_left : (all : List (SegmentPart D)) → all ≡ left_behind 0 all
  all_left all = sym (left_all segment_of (up_to 0) all (λ segment. refl))

  pub next_left : (place : ℕ) (all now new : List (SegmentPart D)) → now ≡ left_behind place all → TakesOut (place + 1) now new → new ≡ left_behind (place + 1) all
  next_left place all now new is takes =
      let next : place + 1 ≡ suc place = omega arith in
      takes.2 ∙ ((place_of segment_of (place + 1) now takes.0 takes.1).rest
      ∙ (ap (λ (n : ℕ). without segment_of n now) next ∙ (ap (without segment_of (suc place)) is
      ∙ (without_left segment_of (suc place) (up_to place) all (outside place (suc place) (omega arith)) ∙ ap (λ (n : ℕ). left_behind n all) (sym next)))))

  -- the first of a segment that is left is the first of all
  pub first_of_all : (place segment : ℕ) (all now : List (SegmentPart D)) → now ≡ left_behind place all → place < segment → first_of segment now ≡ first_of segment all
  first_of_all place segment all now is above = ap (first_of segment) is ∙ first_left segment_of segment (up_to place) all (outside place segment above)

  none_there : (y : SegmentPart D) → slice_get [] 0 ≡ Some y → ⊥
  none_there y is = cc

  is_same : (x y : SegmentPart D) → Some x ≡ Some y → x ≡ y
  is_same x y is = cc

  pub front : (xs : List (SegmentPart D)) (y : SegmentPart D) → slice_get xs 0 ≡ Some y → (ys : List (SegmentPart D)) × (xs ≡ y ∷ ys)
  front [] y is = absurd (none_there y is)
  front (x ∷ xs) y is = (xs, ap (λ (z : SegmentPart D). z ∷ xs) (is_same x y is))

  -- where the first of each segment is taken out, the first of those that are left is left over
  pub is_left_over : (g : Geometry) (place : ℕ) (all now : List (SegmentPart D)) (part : SegmentPart D) → place ≡ g.segments → now ≡ left_behind place all → slice_get now 0 ≡ Some part
      → IsLeftOver g all part.token.segment
  is_left_over g place all now part whole is first =
      let front_is = front now part first in
      let its = is_first_left segment_of (up_to place) all part front_is.0 (sym is ∙ front_is.1) in record {
        place = its.place;
        first = record {
          from = omega arith;
          before = λ other from less.
              (let taken = its.before other less in
              let within = inside place (segment_of taken.thing) taken.kind in
              record { part = taken.thing; here = taken.here; from = within.0; within = omega (arith, within.1, whole); before = taken.before });
          fails = λ first_one. its.stays (record {
            thing = first_one.part;
            here = first_one.here;
            kind = is_inside place (segment_of first_one.part) first_one.from (omega (arith, first_one.within, whole));
            before = first_one.before;
          });
        };
        of_segment = ap (option_map segment_of) its.here;
      }

module _ {D : Type 0} (a : Ghosts D) where
  -- whether there is a token of a segment hangs on its first alone
  pub same_token : (g : Geometry) (segment : ℕ) (now all : List (SegmentPart D)) → first_of segment now ≡ first_of segment all → HasToken a g now segment → HasToken a g all segment
  same_token g segment now all same has = subst (λ (o : Option (SegmentPart D)). IsSomeAnd o (HasPages a g)) same has

  pub token_at : (g : Geometry) (segment : ℕ) (all : List (SegmentPart D)) (part : SegmentPart D) → first_of segment all ≡ Some part → HasToken a g all segment → HasPages a g part
  token_at g segment all part first has = subst (λ (o : Option (SegmentPart D)). IsSomeAnd o (HasPages a g)) first has

  pub has_token : (g : Geometry) (segment : ℕ) (all : List (SegmentPart D)) (part : SegmentPart D) → first_of segment all ≡ Some part → HasPages a g part → HasToken a g all segment
  has_token g segment all part first pages = subst (λ (o : Option (SegmentPart D)). IsSomeAnd o (HasPages a g)) (sym first) pages

  pub no_token : (g : Geometry) (segment : ℕ) (all : List (SegmentPart D)) → first_of segment all ≡ None → HasToken a g all segment → ⊥
  no_token g segment all none has = subst (λ (o : Option (SegmentPart D)). IsSomeAnd o (HasPages a g)) none has

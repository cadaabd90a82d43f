-- What stands at the places of the segments' areas while the nodes of a store take theirs, one after another.
use Rattle.std.proofs.Common.{◌≡◌, ℕ, ◌+◌, ◌%◌, ◌<◌, Bool, if◌then◌else◌, List, Option, None, Some, length, sym, ap, ◌∙◌, arith, inl, inr}
use Rattle.std.specs.Prelude.{◌==◌, nat_lt, option_map, slice_get}
use Rattle.std.proofs.lemmas.Bool.{cases_eq, cases_lt, cases_order, eq-eqb, le-ltb, lt-ltb, ne_eqb}
use Rattle.std.proofs.lemmas.Nat.{mod_below}
use Rattle.std.proofs.lemmas.Option.{slice_get_within, same_Some}
use Rattle.lc_recover.specs.Recovered.{RecoveredStore}
use Rattle.lc_node.specs.FreshSegment.{area_of}
use Rattle.lc_node.specs.Shares.{AreAllTaken, ArePages, AreRest, AreShared, left_at, taken_at}

module _ {A : Type 0} where
  -- what the nodes below a number leave at the place of a segment that is this one's
  abbrev rest_on : ℕ → ℕ → Option A → Option A
  rest_on owner number area = if nat_lt owner number then None else area

  taken_on : (owner number : ℕ) (area : Option A) → (if owner == number then rest_on owner number area else None) ≡ (if owner == number then area else None)
  taken_on owner number area = elim (cases_eq owner number) [
    | inl same ↦
        (let yes = eq-eqb owner number same in
        ap (λ (b : Bool). if b then rest_on owner number area else None) yes
        ∙ ap (λ (b : Bool). if b then None else area) (le-ltb owner number (omega (arith, same)))
        ∙ sym (ap (λ (b : Bool). if b then area else None) yes))
    | inr other ↦
        (let no = ne_eqb owner number other in
        ap (λ (b : Bool). if b then rest_on owner number area else None) no
        ∙ sym (ap (λ (b : Bool). if b then area else None) no))
  ]

  left_on : (owner number : ℕ) (area : Option A) → (if owner == number then None else rest_on owner number area) ≡ rest_on owner (number + 1) area
  left_on owner number area = elim (cases_order owner number) [
    | inl same ↦
        ap (λ (b : Bool). if b then None else rest_on owner number area) (eq-eqb owner number same)
        ∙ sym (ap (λ (b : Bool). if b then None else area) (lt-ltb owner (number + 1) (omega (arith, same))))
    | inr rest ↦ elim rest [
      | inl below ↦
          ap (λ (b : Bool). if b then None else rest_on owner number area) (ne_eqb owner number (λ same. omega (arith, below, same)))
          ∙ ap (λ (b : Bool). if b then None else area) (lt-ltb owner number below)
          ∙ sym (ap (λ (b : Bool). if b then None else area) (lt-ltb owner (number + 1) (omega (arith, below))))
      | inr above ↦
          ap (λ (b : Bool). if b then None else rest_on owner number area) (ne_eqb owner number (λ same. omega (arith, above, same)))
          ∙ ap (λ (b : Bool). if b then None else area) (le-ltb owner number (omega (arith, above)))
          ∙ sym (ap (λ (b : Bool). if b then None else area) (le-ltb owner (number + 1) (omega (arith, above))))
    ]
  ]

  stands_on : (owner number : ℕ) (area : Option A) (x : A) → rest_on owner number area ≡ Some x → area ≡ Some x
  stands_on owner number area x got = elim (cases_lt owner number) [
    | inl below ↦ absurd (none_is_some x (sym (ap (λ (b : Bool). if b then None else area) (lt-ltb owner number below)) ∙ got))
    | inr not_below ↦ sym (ap (λ (b : Bool). if b then None else area) (le-ltb owner number not_below)) ∙ got
  ]
    where
      none_is_some : (x : A) → None ≡ Some x → ⊥
      none_is_some x same = cc

module _ {D : Type 0} (r : RecoveredStore D) (nodes : ℕ) where
  pub rest_first : (pages : List (Option D)) → ArePages r pages → AreRest r 0 nodes pages
  rest_first pages all place within =
      all place within ∙ ap (λ (b : Bool). Some (if b then None else slice_get r.areas (r.geometry.nodes + place))) (sym (le-ltb ((place + 1) % nodes) 0 (omega arith)))

  module _ (number : ℕ) (pages : List (Option D)) (rest : AreRest r number nodes pages) where
    pub rest_next : (new : List (Option D)) → AreShared number nodes pages new → AreRest r (number + 1) nodes new
    rest_next new shared place within =
        shared place ∙ ap (option_map (left_at number nodes place)) (rest place within)
        ∙ ap (λ (o : Option D). Some o) (left_on ((place + 1) % nodes) number (slice_get r.areas (r.geometry.nodes + place)))

    module _ (place : ℕ) (within : place < r.geometry.segments) where
      -- what the node of this number takes
      pub takes : (area : Option D) → slice_get pages place ≡ Some area → taken_at number nodes place area ≡ area_of r nodes number place
      takes area got =
          ap (taken_at number nodes place) (same_Some area (rest_on ((place + 1) % nodes) number (slice_get r.areas (r.geometry.nodes + place))) (sym got ∙ rest place within))
          ∙ taken_on ((place + 1) % nodes) number (slice_get r.areas (r.geometry.nodes + place))

      -- what stands there is the segment's area
      pub stands : (area : D) → slice_get pages place ≡ Some (Some area) → slice_get r.areas (r.geometry.nodes + place) ≡ Some area
      stands area got =
          stands_on ((place + 1) % nodes) number (slice_get r.areas (r.geometry.nodes + place)) area
          (same_Some (rest_on ((place + 1) % nodes) number (slice_get r.areas (r.geometry.nodes + place))) (Some area) (sym (rest place within) ∙ got))

  pub all_taken : (pages : List (Option D)) → AreRest r nodes nodes pages → 0 < nodes → length pages ≡ r.geometry.segments → AreAllTaken pages
  all_taken pages rest some count place area got =
      let within : place < r.geometry.segments = omega (arith, slice_get_within pages place (Some area) got, count) in
      let none : slice_get pages place ≡ Some None =
      rest place within ∙ ap (λ (b : Bool). Some (if b then None else slice_get r.areas (r.geometry.nodes + place))) (lt-ltb ((place + 1) % nodes) nodes (mod_below (place + 1) nodes some)) in
      differ area (sym none ∙ got)
    where
      differ : (area : D) → Some None ≡ Some (Some area) → ⊥
      differ area same = cc

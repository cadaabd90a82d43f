-- A list of one.
use Rattle.std.proofs.Common.{◌≡◌, ℕ, [], ◌∷◌, Some, sym, ap, ◌∙◌, arith}
use Rattle.std.specs.Prelude.{slice_get}
use Rattle.std.proofs.lemmas.Option.{same_Some as some_same, slice_get_within}

module _ {A : Type 0} where
  -- what stands in it stands at place 0
  pub first_alone : (x y : A) (place : ℕ) → slice_get (x ∷ []) place ≡ Some y → (place ≡ 0) × (x ≡ y)
  first_alone x y place got =
      let within = slice_get_within (x ∷ []) place y got in
      let first : place ≡ 0 = omega (arith, within) in
      (first, some_same x y (ap (λ k. slice_get (x ∷ []) k) (sym first) ∙ got))

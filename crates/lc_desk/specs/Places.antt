-- An element of a list, after a write to one.
use Rattle.std.specs.Prelude.{◌≡◌, ℕ, zero, suc, List, [], ◌∷◌, map, Some, slice_get, slice_set}
use Rattle.std.proofs.Common.{refl, sym, ap, ◌∙◌}
use Rattle.std.proofs.lemmas.Option.{same_Some as same_some}

pub get_set_same : {A : Type 0} (xs : List A) (k : ℕ) (x y : A) → slice_get xs k ≡ Some x → slice_get (slice_set xs k y) k ≡ Some y
get_set_same [] k x y is = absurd cc
get_set_same (z ∷ xs) zero x y is = refl
get_set_same (z ∷ xs) (suc k) x y is = get_set_same xs k x y is

pub get_set_other : {A : Type 0} (xs : List A) (k j : ℕ) (y : A) → (j ≡ k → ⊥) → slice_get (slice_set xs k y) j ≡ slice_get xs j
get_set_other [] k j y differ = refl
get_set_other (z ∷ xs) zero zero y differ = absurd (differ refl)
get_set_other (z ∷ xs) zero (suc j) y differ = refl
get_set_other (z ∷ xs) (suc k) zero y differ = refl
get_set_other (z ∷ xs) (suc k) (suc j) y differ = get_set_other xs k j y (λ e. differ (ap suc e))

pub same_map_set : {A B : Type 0} (f : A → B) (xs : List A) (k : ℕ) (x y : A) → slice_get xs k ≡ Some x → f y ≡ f x → map f (slice_set xs k y) ≡ map f xs
same_map_set f [] k x y is same = refl
same_map_set f (z ∷ xs) zero x y is same = ap (λ b. b ∷ map f xs) (same ∙ ap f (sym (same_some z x is)))
same_map_set f (z ∷ xs) (suc k) x y is same = ap (λ bs. f z ∷ bs) (same_map_set f xs k x y is same)

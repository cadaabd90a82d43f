-- Lists that are put after others.
use Rattle.std.proofs.Common.{◌≡◌, ℕ, zero, suc, ◌+◌, List, [], ◌∷◌, ◌++◌, length, take, Some, ap, ◌∙◌, arith}
use Rattle.std.specs.Prelude.{slice_get}
use Rattle.std.proofs.lemmas.Option.{same_Some as same_some}

pub last_get : {A : Type 0} (xs : List A) (x : A) (k : ℕ) → k ≡ length xs → slice_get (xs ++ x ∷ []) k ≡ Some x
last_get [] x k is = ap (slice_get (x ∷ [])) is
last_get (y ∷ xs) x zero is = absurd (omega (arith, is))
last_get (y ∷ xs) x (suc k) is = last_get xs x k (omega (arith, is))

pub take_next : {A : Type 0} (n : ℕ) (xs : List A) (x : A) → slice_get xs n ≡ Some x → take (n + 1) xs ≡ take n xs ++ x ∷ []
take_next n [] x at = absurd cc
take_next zero (y ∷ xs) x at = ap (λ (z : _). z ∷ []) (same_some y x at)
take_next (suc n) (y ∷ xs) x at =
    let next : suc n + 1 ≡ suc (n + 1) = omega arith in
    ap (λ (k : ℕ). take k (y ∷ xs)) next ∙ ap (λ (l : List _). y ∷ l) (take_next n xs x at)

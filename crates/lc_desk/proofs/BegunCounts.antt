-- How many of some things pass, where one of them is replaced.
use Rattle.std.proofs.Common.{◌≡◌, ℕ, zero, suc, ◌+◌, ◌<◌, Bool, true, false, cond, ◌||◌, List, [], ◌∷◌, Some, refl, ap, ◌∙◌, arith, lt-ltb}
use Rattle.std.specs.Prelude.{nat_lt, slice_get, slice_set}
use Rattle.std.specs.List.{count_by, list_any}
use Rattle.std.proofs.lemmas.List.Sums.{sum_by-cons}
use Rattle.std.proofs.lemmas.Option.{same_Some as same_some}

one_more : (b : Bool) (n : ℕ) (any : Bool) → nat_lt 0 n ≡ any → nat_lt 0 (cond b 1 0 + n) ≡ (b || any)
one_more true n any h = (let some : 0 < 1 + n = omega arith in lt-ltb 0 (1 + n) some)
one_more false n any h = (let same : 0 + n ≡ n = omega arith in ap (nat_lt 0) same ∙ h)

module _ {A : Type 0} (p : A → Bool) where
  pub count_set : (xs : List A) (i : ℕ) (old new : A) → slice_get xs i ≡ Some old → count_by p (slice_set xs i new) + cond (p old) 1 0 ≡ count_by p xs + cond (p new) 1 0
  count_set [] i old new at = absurd cc
  count_set (x ∷ xs) zero old new at =
      omega (arith, sum_by-cons (λ y. cond (p y) 1 0) new xs, sum_by-cons (λ y. cond (p y) 1 0) x xs, ap {B = ℕ} (λ y. cond (p y) 1 0) (same_some x old at))
  count_set (x ∷ xs) (suc i) old new at =
      omega (arith, count_set xs i old new at, sum_by-cons (λ y. cond (p y) 1 0) x (slice_set xs i new), sum_by-cons (λ y. cond (p y) 1 0) x xs)

  pub some_counted : (xs : List A) → nat_lt 0 (count_by p xs) ≡ list_any p xs
  some_counted [] = refl
  some_counted (x ∷ xs) = ap (nat_lt 0) (sum_by-cons (λ y. cond (p y) 1 0) x xs) ∙ one_more (p x) (count_by p xs) (list_any p xs) (some_counted xs)

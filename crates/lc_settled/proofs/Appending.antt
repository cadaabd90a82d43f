-- Of state and numbers: a transaction that gets its place in the log, at a node's desk.
use Rattle.std.proofs.Common.{◌≡◌, Bool, true, false, List, [], ◌∷◌, ◌++◌, filter, refl, ap}
use Rattle.std.specs.Prelude.{if◌then◌else◌}

pub filter-end : {A : Type 0} (p : A → Bool) (xs : List A) (x : A) → filter p (xs ++ x ∷ []) ≡ filter p xs ++ (if p x then x ∷ [] else [])
filter-end p [] x = refl
filter-end p (y ∷ xs) x = elim (p y) as (λ b. (if b then y ∷ filter p (xs ++ x ∷ []) else filter p (xs ++ x ∷ [])) ≡ (if b then y ∷ filter p xs else filter p xs) ++ (if p x then x ∷ [] else [])) [
  | true ↦ ap (λ l. y ∷ l) (filter-end p xs x)
  | false ↦ filter-end p xs x
]

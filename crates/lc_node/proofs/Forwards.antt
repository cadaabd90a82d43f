-- Of a node: a list is changed element by element, from the front.
use Rattle.std.proofs.Common.{ℕ, ◌≤◌, List, All, length, get_or, refl, arith}
use Rattle.std.proofs.lemmas.Option.{slice_get_read}
use Rattle.std.proofs.lemmas.List.{get_or_default}
use Rattle.lc_log_side.proofs.Forwards.{Forwards}

module _ {A : Type 0} (R : A → A → Type 0) where
  -- a fact of all that were changed
  pub each_new : (P : A → Type 0) (xs now : List A) (n : ℕ) → (Forwards R) xs now n → length now ≤ n → ((x z : A) → R x z → P z) → All P now
  each_new P xs now n f whole has = λ k d l.
      let z : A = get_or now k d in let x : A = get_or xs k d in
      has x z (f.done k x z (omega arith) (slice_get_read xs (length xs) k x refl (let e = f.long in omega arith) (get_or_default xs k d x (let e = f.long in omega arith))) (slice_get_read now (length now) k z refl l (get_or_default now k d z l)))

-- Of a segment: lists of one length, whose elements at each place stand in a relation.
use Rattle.std.specs.Prelude.{◌≡◌, ℕ, List, length, Some, slice_get}

pub record Each {A B : Type 0} (R : A → B → Type 0) (xs : List A) (ys : List B) : Type 0 where
  pub long : length ys ≡ length xs
  pub each : (k : ℕ) (x : A) (y : B) → slice_get xs k ≡ Some x → slice_get ys k ≡ Some y → R x y

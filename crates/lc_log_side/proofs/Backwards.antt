-- Of a log under its lock: a list is changed element by element, from the back, beside another that is taken apart.
use Rattle.std.proofs.Common.{◌≡◌, ℕ, ◌<◌, List, Some, length, get_or, refl}
use mathlib.Core.Logic.{dite}
use native.Mathlib.Decide.{dec_le}
use Rattle.std.specs.Prelude.{slice_get}
use Rattle.std.proofs.lemmas.Option.{slice_get_read}

module _ {A : Type 0} where
  pub got_at : (xs : List A) (k : ℕ) (x : A) → x ≡ get_or xs k x → k < length xs → slice_get xs k ≡ Some x
  got_at xs k x is within = slice_get_read xs (length xs) k x refl within is

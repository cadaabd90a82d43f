-- What was written.
use Rattle.std.proofs.Common.{◌≡◌, ℕ, List, Option, subst}
use Rattle.std.specs.Io.KnownBytes.{Appends}

-- the same bytes, written otherwise
pub same_bytes : (o n : Option (List ℕ)) (a b : List ℕ) → a ≡ b → Appends o n a → Appends o n b
same_bytes o n a b e h = let P : List ℕ → Type 0 = λ x. Appends o n x in subst P e h

-- What commands make of a map of names.
use Rattle.std.specs.Prelude.{◌≡◌, ◌≢◌, ℕ, List, Option, Some, None, IsSome}

-- a name leads to its attributes
abbrev pub Names : Type 0
Names = List ℕ → Option (List ℕ)

-- the name is put, and all else stays
pub record IsCreated (name attributes : List ℕ) (old new : Names) : Type 0 where
  pub absent : old name ≡ None
  pub there : new name ≡ Some attributes
  pub others : (other : List ℕ) → other ≢ name → new other ≡ old other

-- one name gives its attributes to another, and all else stays
pub record IsRenamed (from to : List ℕ) (old new : Names) : Type 0 where
  pub had : IsSome (old from)
  pub absent : old to ≡ None
  pub there : new to ≡ old from
  pub gone : new from ≡ None
  pub others : (other : List ℕ) → other ≢ from → other ≢ to → new other ≡ old other

-- the name is taken out, and all else stays
pub record IsRemoved (name : List ℕ) (old new : Names) : Type 0 where
  pub had : IsSome (old name)
  pub gone : new name ≡ None
  pub others : (other : List ℕ) → other ≢ name → new other ≡ old other

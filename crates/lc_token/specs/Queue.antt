-- Parts in a row, of which the first leaves first.
use Rattle.std.specs.Prelude.{◌≡◌, ℕ, Option, Some, None, List, [], ◌∷◌}
use Rattle.lc_record.specs.declared.part.Part.{Part}

-- what contracts see of the parts that are due: these, and for how many there is room
pub record Queue : Type 0 where
  pub parts : List Part
  pub room : ℕ

-- the first leaves, if there is one
abbrev pub TakesFirst : List Part → Option Part → List Part → Type 0
TakesFirst old None new = (old ≡ []) × (new ≡ old)
TakesFirst old (Some part) new = old ≡ part ∷ new

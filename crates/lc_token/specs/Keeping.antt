-- How the parts after a hole are kept: the first by itself, and the others in a map.
use Rattle.std.specs.Prelude.{◌≡◌, ℕ, ◌+◌, ◌<◌, ◌^◌, Option, Some, None, List, [], ◌∷◌, length}
use Rattle.std.specs.Map.{values_of}
use Rattle.lc_record.specs.declared.part.Part.{Part}
use Rattle.lc_token.specs.Backlog.{Ascends, StandAtNumbers}

-- there are no others where there is no first, and else they ascend above it
abbrev pub Leads : Option Part → List (ℕ × Part) → Type 0
Leads None entries = entries ≡ []
Leads (Some part) entries = Ascends part.seq (values_of entries)

pub record AreLed (first : Option Part) (entries : List (ℕ × Part)) : Type 0 where
  pub numbers : StandAtNumbers entries
  pub leads : Leads first entries
  -- with the first, there are fewer than 2^63
  pub few : length entries + 1 < 2 ^ 63

-- a number is above that of the first of these, of which there is one
abbrev pub IsBehindFirst : ℕ → List Part → Type 0
IsBehindFirst number [] = ⊥
IsBehindFirst number (part ∷ parts) = part.seq < number

-- a number is below that of the first of these, of which there is one
abbrev pub IsBeforeFirst : ℕ → List Part → Type 0
IsBeforeFirst number [] = ⊥
IsBeforeFirst number (part ∷ parts) = number < part.seq

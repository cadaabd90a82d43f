-- Sets of positions, as lists of runs.
use Rattle.std.specs.Prelude.{◌≡◌, ◌⊎◌, ◌↔◌, ℕ, ◌+◌, ◌-◌, ◌^◌, ◌<◌, ◌≤◌, List, [], ◌∷◌, length}
use Rattle.smallvec.specs.SmallVec.{SmallVec}
use Rattle.lc_range.specs.Range.{HasPosition, IsBefore}
use Rattle.lc_range.specs.declared.range.Range.{Range}

-- the set's positions: some run has it
abbrev pub Has : List Range → ℕ → ℕ → Type 0
Has [] segment k = ⊥
Has (run ∷ runs) segment k = HasPosition run segment k ⊎ Has runs segment k

-- a range lies before each of these
abbrev pub LiesBefore : Range → List Range → Type 0
LiesBefore range [] = Unit {0}
LiesBefore range (run ∷ runs) = IsBefore range run × LiesBefore range runs

-- the runs are canonical: none is empty, and each lies before all later ones
abbrev pub IsCanonical : List Range → Type 0
IsCanonical [] = Unit {0}
IsCanonical (run ∷ runs) = (1 ≤ run.len) × LiesBefore run runs × IsCanonical runs

-- each of these ranges ends at a bound or below
abbrev pub EndWithin : List Range → ℕ → Type 0
EndWithin [] bound = Unit {0}
EndWithin (range ∷ ranges) bound = (range.offset + range.len ≤ bound) × EndWithin ranges bound

-- the positions of these runs are those of the others, and len more of a segment from offset on
abbrev pub AddsPositions : List Range → ℕ → ℕ → ℕ → List Range → Type 0
AddsPositions old segment offset len new =
    (s k : ℕ) → Has new s k ↔ (Has old s k ⊎ ((s ≡ segment) × (offset ≤ k) × (k < offset + len)))

-- with these positions more than n runs would stand
abbrev pub NeedsRunsAbove : ℕ → List Range → ℕ → ℕ → ℕ → Type 0
NeedsRunsAbove n old segment offset len =
    (runs : List Range) × IsCanonical runs × AddsPositions old segment offset len runs × (n < length runs)

-- some of len positions from offset on is not in the set
abbrev pub MissesSome : List Range → ℕ → ℕ → ℕ → Type 0
MissesSome set segment offset len = (k : ℕ) × (offset ≤ k) × (k < offset + len) × (Has set segment k → ⊥)

-- the positions of these runs are those of len from offset on that are not in the set
abbrev pub AreOutside : List Range → ℕ → ℕ → ℕ → List Range → Type 0
AreOutside set segment offset len runs =
    (s k : ℕ) → Has runs s k ↔ ((s ≡ segment) × (offset ≤ k) × (k < offset + len) × (Has set s k → ⊥))

-- how many positions these runs have
abbrev pub total_len : List Range → ℕ
total_len [] = 0
total_len (run ∷ runs) = run.len + total_len runs

-- of len positions from offset on, n are not in the set
abbrev pub CountsOutside : List Range → ℕ → ℕ → ℕ → ℕ → Type 0
CountsOutside set segment offset len n =
    (runs : List Range) × IsCanonical runs × AreOutside set segment offset len runs × (n ≡ total_len runs)

-- what a set keeps
pub record IsSet (runs : SmallVec Range) : Type 0 where
  pub canonical : IsCanonical runs.items
  pub ends : EndWithin runs.items (2 ^ 32 - 1)
  pub few : length runs.items ≤ 64
  pub inline : 8 ≤ runs.capacity

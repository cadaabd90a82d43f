-- The steps of a transaction: it keeps a range's old bytes, adds it to its set, and writes in the set.
use Rattle.std.specs.Prelude.{◌≡◌, ℕ, List, [], ◌∷◌}
use Rattle.lc_range.specs.RangeSet.{Has, AddsPositions}
use Rattle.lc_range.specs.Undo.{OldBytes, KeepsOld}
use Rattle.lc_range.specs.declared.range.Range.{Range}

-- the set, the copies, and the byte at each position of each segment
pub record State : Type 0 where
  pub set : List Range
  pub copies : List OldBytes
  pub content : ℕ → ℕ → ℕ

-- nothing is set yet
abbrev pub start : (ℕ → ℕ → ℕ) → State
start content = record { set = []; copies = []; content = content }

pub record IsStep (old new : State) (range : Range) : Type 0 where
  pub keeps : KeepsOld old.copies old.set range.segment range.offset range.len (old.content range.segment) new.copies
  pub adds : AddsPositions old.set range.segment range.offset range.len new.set
  pub writes : (s k : ℕ) → (Has new.set s k → ⊥) → new.content s k ≡ old.content s k

-- steps over these ranges, one after another
abbrev pub AreSteps : State → List Range → State → Type 0
AreSteps old [] new = old ≡ new
AreSteps old (range ∷ ranges) new = (next : State) × IsStep old next range × AreSteps next ranges new

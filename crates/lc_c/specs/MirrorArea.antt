-- What the last call of an area says of it.
use Rattle.std.specs.Prelude.{◌≡◌, ◌+◌, ◌<◌, ◌≤◌, ℕ, Bool, true, List}
use Rattle.lc_disk.specs.Area.{IsClean, IsSameOutside}

-- these positions alone may have changed, and they are dirty: who has the bytes before has those now once these are written
pub record IsWrite (at len : ℕ) (before now : List ℕ) (dirty : ℕ → Bool) : Type 0 where
  pub elsewhere : IsSameOutside at len before now
  pub dirtied : (k : ℕ) → at ≤ k → k < at + len → dirty k ≡ true

-- no byte has changed, and all are stable
pub record IsSync (before now : List ℕ) (dirty : ℕ → Bool) : Type 0 where
  pub same : now ≡ before
  pub clean : IsClean dirty

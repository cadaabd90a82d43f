-- Where the dirty positions of an area in memory lie.
use Rattle.std.specs.Prelude.{◌≡◌, ℕ, ◌-◌, ◌<◌, ◌≤◌, Bool, true, false}

-- The dirty positions lie from the first of these to before the second, and where these two differ, one at each end.
pub record IsSpan (start end : ℕ) (dirty : ℕ → Bool) : Type 0 where
  pub ordered : start ≤ end
  pub before : (k : ℕ) → k < start → dirty k ≡ false
  pub after : (k : ℕ) → end ≤ k → dirty k ≡ false
  pub first : start < end → dirty start ≡ true
  pub last : start < end → dirty (end - 1) ≡ true

-- Tests of one segment after another.
use Rattle.std.proofs.Common.{ℕ, zero, suc, ◌+◌, ◌<◌, ◌≤◌, subst, arith, add-one}
use Rattle.lc_rest.specs.AtRest.{IsFirst}

-- of the first so many segments
pub each_segment : (P : ℕ → Type 0) (n : ℕ) → ((k : ℕ) → k < n → P (k + 1)) → (segment : ℕ) → 1 ≤ segment → segment ≤ n → P segment
each_segment P n each zero first last = absurd (omega (arith, first))
each_segment P n each (suc k) first last = subst P (add-one k) (each k (omega (arith, last)))

-- and the next one fails
pub first_failed : (P : ℕ → Type 0) (n : ℕ) → ((k : ℕ) → k < n → P (k + 1)) → (P (n + 1) → ⊥) → IsFirst P 1 (n + 1)
first_failed P n each fails = record {
  from = omega arith;
  before = λ other least less. each_segment P n each other least (omega (arith, less));
  fails = fails;
}

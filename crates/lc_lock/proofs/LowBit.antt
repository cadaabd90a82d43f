-- The low bit of a bell.
use Rattle.std.proofs.Common.{◌≡◌, ℕ, ◌+◌, ◌*◌, ◌/◌, ◌%◌, max, bit_or, ap, ◌∙◌, arith}
use Rattle.std.specs.Int.Bits.{or_step, or_zero_r}
use Rattle.lc_lock.specs.Bells.{IsAwaited, awaited}

pub sets_bit : (n : ℕ) → bit_or n 1 ≡ awaited n
sets_bit n = let low : max (n % 2) 1 ≡ 1 = omega arith in or_step n 1 ∙ ap (λ (z : ℕ). z * 2 + max (n % 2) 1) (or_zero_r (n / 2)) ∙ ap (λ (z : ℕ). n / 2 * 2 + z) low

pub clears_bit : (n : ℕ) → IsAwaited n → (n + 1) % 18446744073709551616 % 2 ≡ 0
clears_bit n set = omega arith

-- The two halves of the word, each of which wraps by itself.
use Rattle.std.proofs.Common.{◌≡◌, ◌≢◌, ℕ, ◌+◌, ◌*◌, ◌/◌, ◌%◌, ◌<◌, ◌≤◌, sym, ap, ◌∙◌, lt_of_not-le, arith}
use Rattle.atomic_table.proofs.Lists.{one_turn}
use Rattle.lc_lock.specs.TicketQueue.{word_of}

pub served_half : (d s : ℕ) → word_of d s % 4294967296 ≡ s % 4294967296
served_half d s = omega arith

pub next_half : (d s : ℕ) → word_of d s / 4294967296 ≡ d % 4294967296
next_half d s = omega arith

wraps : (n : ℕ) → (n % 4294967296 + 1) % 4294967296 ≡ (n + 1) % 4294967296
wraps n = omega arith

once_round : (n : ℕ) → (n + 4294967296) % 4294967296 ≡ n % 4294967296
once_round n = omega arith

inside : (n : ℕ) → n % 4294967296 < 4294967296
inside n = omega arith

pub one_drawn : (d s : ℕ) → (word_of d s + 4294967296) % 18446744073709551616 ≡ word_of (d + 1) s
one_drawn d s = omega arith

-- k is what serves the ticket after this one, added to the word
abbrev pub ServesNext : ℕ → ℕ → Type 0
ServesNext ticket k = (next : ℕ) → next < 4294967296 → (next * 4294967296 + ticket + k) % 18446744073709551616 ≡ next * 4294967296 + (ticket + 1) % 4294967296

pub one_served : (d s k : ℕ) → ServesNext (s % 4294967296) k → (word_of d s + k) % 18446744073709551616 ≡ word_of d (s + 1)
one_served d s k law = law (d % 4294967296) (inside d) ∙ ap (λ (z : ℕ). d % 4294967296 * 4294967296 + z) (wraps s)

-- where the halves do not tell that all tickets but one are out, one more may be drawn
pub has_room : (d s : ℕ) → s ≤ d → d < s + 4294967296 → (word_of d s / 4294967296 + 1) % 4294967296 ≢ word_of d s % 4294967296 → d + 1 < s + 4294967296
has_room d s behind few open_ = lt_of_not-le (λ full. let e : d + 1 ≡ s + 4294967296 = omega arith in
    open_ (ap (λ (z : ℕ). (z + 1) % 4294967296) (next_half d s) ∙ (wraps d ∙ (ap (λ (z : ℕ). z % 4294967296) e ∙ (once_round s ∙ sym (served_half d s))))))

-- of the tickets that are out, the low halves tell which one is served
pub same_ticket : (d s t : ℕ) → s ≤ t → t < d → d < s + 4294967296 → s % 4294967296 ≡ t % 4294967296 → s ≡ t
same_ticket d s t low high few e = one_turn s t 4294967296 low (omega arith) e

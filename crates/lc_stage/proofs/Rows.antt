-- Where the rows of the rounds stand.
use Rattle.std.proofs.Common.{◌≡◌, ◌≢◌, ◌⊎◌, ℕ, ◌+◌, ◌*◌, ◌%◌, ◌<◌, ◌≤◌, sym, refl, ap, ◌∙◌, inl, inr, ⊎_elim, arith}
use mathlib.Core.Logic.{dite}
use native.Mathlib.Decide.{ℕ_discrete}
use Rattle.lc_stage.specs.Staging.{row, word_of}

pub row_is : (room n : ℕ) → row room n ≡ (n % 2) * room
unfolding row
row_is room n = refl

no_room : (room k : ℕ) → k ≡ 0 → k * room ≡ 0
no_room room k e = ap (λ (z : ℕ). z * room) e ∙ (omega arith)

one_room : (room k : ℕ) → k ≡ 1 → k * room ≡ room
one_room room k e = ap (λ (z : ℕ). z * room) e ∙ (omega arith)

-- a round has one row, and the next round the other
pub rows : (room n : ℕ) → ((row room n ≡ 0) × (row room (1 + n) ≡ room)) ⊎ ((row room n ≡ room) × (row room (1 + n) ≡ 0))
rows room n = dite (ℕ_discrete (n % 2) 0)
    (λ even. let odd : (1 + n) % 2 ≡ 1 = omega arith in inl (row_is room n ∙ no_room room (n % 2) even, row_is room (1 + n) ∙ one_room room ((1 + n) % 2) odd))
    (λ d. let odd : n % 2 ≡ 1 = omega arith in let even : (1 + n) % 2 ≡ 0 = omega arith in inr (row_is room n ∙ one_room room (n % 2) odd, row_is room (1 + n) ∙ no_room room ((1 + n) % 2) even))

pub row_fits : (room n : ℕ) → row room n ≤ room
row_fits room n = ⊎_elim (λ (h : (row room n ≡ 0) × (row room (1 + n) ≡ room)). let a = h.0 in omega arith) (λ (h : (row room n ≡ room) × (row room (1 + n) ≡ 0)). let a = h.0 in omega arith) (rows room n)

pub row_again : (room n : ℕ) → row room (1 + (1 + n)) ≡ row room n
row_again room n = let same : (1 + (1 + n)) % 2 ≡ n % 2 = omega arith in row_is room (1 + (1 + n)) ∙ (ap (λ (z : ℕ). z * room) same ∙ sym (row_is room n))

-- a place of a round is none of the next round
pub rows_apart : (room m n p q : ℕ) → 1 + m ≡ n → p < room → q < room → word_of room m p ≢ word_of room n q
rows_apart room m n p q next low high e = let to : row room (1 + m) ≡ row room n = ap (row room) next in
    ⊎_elim (λ (h : (row room m ≡ 0) × (row room (1 + m) ≡ room)). let a = h.0 in let b = h.1 in absurd (omega arith)) (λ (h : (row room m ≡ room) × (row room (1 + m) ≡ 0)). let a = h.0 in let b = h.1 in absurd (omega arith)) (rows room m)

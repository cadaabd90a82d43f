-- Which threads read, with one more and with one less.
use Rattle.std.proofs.Common.{◌≡◌, ℕ, zero, suc, ◌<◌, ◌≤◌, Bool, true, false, not, ◌&&◌, ◌||◌, eqb, List, [], ◌∷◌, length, replicate, get_or, set, refl, sym, ap, ◌∙◌, inl, inr, arith}
use Rattle.std.proofs.lemmas.Bool.{cases_Bool, cases_eq, false≢true, eq-eqb, ne_eqb, or_left, or_right, or_cases}
use Rattle.std.specs.Bool.{beq}
use Rattle.std.specs.List.{list_any}
use Rattle.std.proofs.Math.Bool.{or-false}
use Rattle.lc_tx.specs.Readers.{some_reads}

pub some_at : (xs : List Bool) (i : ℕ) → get_or xs i false ≡ true → some_reads xs ≡ true
some_at [] i is = absurd (false≢true is)
some_at (x ∷ xs) zero is = or_left x (some_reads xs) is
some_at (x ∷ xs) (suc i) is = or_right x (some_reads xs) (some_at xs i is)

pub none_at : (xs : List Bool) → some_reads xs ≡ false → (i : ℕ) → get_or xs i false ≡ false
none_at xs none i = elim (cases_Bool (get_or xs i false)) [
  | inl is ↦ absurd (false≢true (sym none ∙ some_at xs i is))
  | inr not ↦ not
]

pub one_at : (xs : List Bool) → some_reads xs ≡ true → (i : ℕ) × (get_or xs i false ≡ true)
one_at [] some = absurd (false≢true some)
one_at (x ∷ xs) some = elim (or_cases x (some_reads xs) some) [
  | inl here ↦ (0, here)
  | inr later ↦ let at = one_at xs later in (suc at.0, at.1)
]

pub any_some : (xs : List Bool) → list_any (λ b. beq b true) xs ≡ some_reads xs
any_some [] = refl
any_some (true ∷ xs) = refl
any_some (false ∷ xs) = any_some xs

eqb_suc : (i j : ℕ) → eqb (suc i) (suc j) ≡ eqb i j
eqb_suc i j = elim (cases_eq i j) [
  | inl same ↦ eq-eqb (suc i) (suc j) (ap suc same) ∙ sym (eq-eqb i j same)
  | inr other ↦ ne_eqb (suc i) (suc j) (λ same. other (omega (arith, same))) ∙ sym (ne_eqb i j other)
]

-- one more
pub set_true : (xs : List Bool) (i j : ℕ) → i < length xs → get_or (set xs i true) j false ≡ (eqb i j || get_or xs j false)
set_true [] i j within = absurd (omega (arith, within))
set_true (x ∷ xs) zero zero within = refl
set_true (x ∷ xs) zero (suc j) within = sym (ap (λ (b : Bool). b || get_or xs j false) (ne_eqb 0 (suc j) (omega arith)))
set_true (x ∷ xs) (suc i) zero within = sym (ap (λ (b : Bool). b || x) (ne_eqb (suc i) 0 (omega arith)))
set_true (x ∷ xs) (suc i) (suc j) within = set_true xs i j (omega (arith, within)) ∙ ap (λ (b : Bool). b || get_or xs j false) (sym (eqb_suc i j))

-- one less
pub set_false : (xs : List Bool) (i j : ℕ) → get_or (set xs i false) j false ≡ (not (eqb i j) && get_or xs j false)
set_false [] i j = same (not (eqb i j))
  where
    same : (b : Bool) → false ≡ (b && false)
    same true = refl
    same false = refl
set_false (x ∷ xs) zero zero = refl
set_false (x ∷ xs) zero (suc j) = sym (ap (λ (b : Bool). not b && get_or xs j false) (ne_eqb 0 (suc j) (omega arith)))
set_false (x ∷ xs) (suc i) zero = sym (ap (λ (b : Bool). not b && x) (ne_eqb (suc i) 0 (omega arith)))
set_false (x ∷ xs) (suc i) (suc j) = set_false xs i j ∙ ap (λ (b : Bool). not b && get_or xs j false) (sym (eqb_suc i j))

-- one that is after them all
pub past : (xs : List Bool) (i j : ℕ) → length xs ≤ i → get_or xs j false ≡ (not (eqb i j) && get_or xs j false)
past [] i j behind = same (not (eqb i j))
  where
    same : (b : Bool) → false ≡ (b && false)
    same true = refl
    same false = refl
past (x ∷ xs) zero j behind = absurd (omega (arith, behind))
past (x ∷ xs) (suc i) zero behind = sym (ap (λ (b : Bool). not b && x) (ne_eqb (suc i) 0 (omega arith)))
past (x ∷ xs) (suc i) (suc j) behind = past xs i j (omega (arith, behind)) ∙ ap (λ (b : Bool). not b && get_or xs j false) (sym (eqb_suc i j))

pub set_some : (xs : List Bool) (i : ℕ) → i < length xs → some_reads (set xs i true) ≡ true
set_some xs i within = some_at (set xs i true) i (set_true xs i i within ∙ or_left (eqb i i) (get_or xs i false) (eq-eqb i i refl))

-- one alone
pub of_nobody : (i j : ℕ) → i < 16 → get_or (set (replicate 16 false) i true) j false ≡ eqb i j
of_nobody i j within = set_true (replicate 16 false) i j within ∙ ap (λ (b : Bool). eqb i j || b) (none_at (replicate 16 false) refl j) ∙ or-false (eqb i j)

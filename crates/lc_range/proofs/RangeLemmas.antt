-- Ranges of which one lies before another, or holds it, or touches it.
use Rattle.std.proofs.Common.{◌≡◌, ◌⊎◌, ℕ, ◌+◌, ◌-◌, ◌<◌, ◌≤◌, min, max, true, false, eqb, ltb, leb, ◌&&◌, sym, ap, ◌∙◌, inl, inr, arith}
use Rattle.std.proofs.lemmas.Bool.{and_parts, and_from, or_cases, or_parts, and_cases, eqb-true, eqb-false, leb-true, ltb-true, ltb-false, eq-eqb, le-leb}
use Rattle.lc_range.specs.Range.{HasPosition, IsBefore}
use Rattle.lc_range.specs.Walk.{is_before, is_holding, joined}
use Rattle.lc_range.specs.declared.range.Range.{Range}

pub same_range : (a b : Range) → a.segment ≡ b.segment → a.offset ≡ b.offset → a.len ≡ b.len → a ≡ b
same_range a b s o l = ap (λ (n : ℕ). record { segment = n; offset = a.offset; len = a.len }) s ∙ ap (λ (n : ℕ). record { segment = b.segment; offset = n; len = a.len }) o ∙ ap (λ (n : ℕ). record { segment = b.segment; offset = b.offset; len = n }) l

pub before_is : (a b : Range) → is_before a b ≡ true → IsBefore a b
before_is a b e = elim (or_cases (ltb a.segment b.segment) (eqb a.segment b.segment && ltb (a.offset + a.len) b.offset) e) [
  | inl less ↦ inl (ltb-true _ _ less)
  | inr both ↦ let p = and_parts (eqb a.segment b.segment) (ltb (a.offset + a.len) b.offset) both in inr (eqb-true _ _ p.0, ltb-true _ _ p.1)
]

pub not_before : (a b : Range) → is_before a b ≡ false → IsBefore a b → ⊥
not_before a b e before =
    let p = or_parts (ltb a.segment b.segment) (eqb a.segment b.segment && ltb (a.offset + a.len) b.offset) e in
    elim before [
      | inl less ↦ omega (arith, less, ltb-false _ _ p.0)
      | inr both ↦ elim (and_cases (eqb a.segment b.segment) (ltb (a.offset + a.len) b.offset) p.1) [
        | inl other ↦ eqb-false _ _ other both.0
        | inr near ↦ omega (arith, both.1, ltb-false _ _ near)
      ]
    ]

-- a position after the end of a range, with a gap between
abbrev pub IsPast : Range → ℕ → ℕ → Type 0
IsPast a s k = (a.segment < s) ⊎ ((a.segment ≡ s) × (a.offset + a.len < k))

pub past_before : (a b : Range) (s k : ℕ) → IsBefore a b → HasPosition b s k → IsPast a s k
past_before a b s k before has = elim before [
  | inl less ↦ inl (omega (arith, less, has.0))
  | inr both ↦ inr (both.0 ∙ sym has.0, omega (arith, both.1, has.1))
]

pub past_not : (a : Range) (s k : ℕ) → IsPast a s k → HasPosition a s k → ⊥
past_not a s k past has = elim past [ inl less ↦ omega (arith, less, has.0) | inr both ↦ omega (arith, both.1, has.2) ]

pub past_end : (a : Range) → IsPast a a.segment (a.offset + a.len) → ⊥
past_end a past = elim past [ inl less ↦ omega (arith, less) | inr both ↦ omega (arith, both.1) ]

pub before_before : (a b c : Range) → IsBefore a b → IsBefore b c → IsBefore a c
before_before a b c one two = elim one [
  | inl less ↦ elim two [ inl more ↦ inl (omega (arith, less, more)) | inr both ↦ inl (omega (arith, less, both.0)) ]
  | inr both ↦ elim two [ inl more ↦ inl (omega (arith, both.0, more)) | inr next ↦ inr (both.0 ∙ next.0, omega (arith, both.1, next.1)) ]
]

-- two ranges of which neither lies before the other
pub record Touch (a b : Range) : Type 0 where
  pub segment : a.segment ≡ b.segment
  pub this : a.offset ≤ b.offset + b.len
  pub other : b.offset ≤ a.offset + a.len

pub touch : (a b : Range) → (IsBefore a b → ⊥) → (IsBefore b a → ⊥) → Touch a b
touch a b one two =
    let segment : a.segment ≡ b.segment = same_number a.segment b.segment (λ less. one (inl less)) (λ less. two (inl less)) in
    record {
      segment = segment;
      this = at_most a.offset (b.offset + b.len) (λ less. two (inr (sym segment, less)));
      other = at_most b.offset (a.offset + a.len) (λ less. one (inr (segment, less)));
    }
  where
    at_most : (m n : ℕ) → (n < m → ⊥) → m ≤ n
    at_most m n not = omega (arith, not)

    same_number : (m n : ℕ) → (m < n → ⊥) → (n < m → ⊥) → m ≡ n
    same_number m n one two = omega (arith, one, two)

-- the positions of ranges that touch
pub in_joined : (a b : Range) (s k : ℕ) → Touch a b → HasPosition (joined a b) s k → HasPosition b s k ⊎ HasPosition a s k
in_joined a b s k t has = in_either a.segment b.segment a.offset a.len b.offset b.len s k t.segment t.this t.other has.0 has.1 has.2
  where
    in_either : (p q i m j n s k : ℕ) → p ≡ q → i ≤ j + n → j ≤ i + m → s ≡ p → min i j ≤ k → k < min i j + (max (i + m) (j + n) - min i j)
        → ((s ≡ q) × (j ≤ k) × (k < j + n)) ⊎ ((s ≡ p) × (i ≤ k) × (k < i + m))
    in_either p q i m j n s k e one two here low high = grind arith

pub joined_has : (a b : Range) (s k : ℕ) → Touch a b → HasPosition b s k ⊎ HasPosition a s k → HasPosition (joined a b) s k
joined_has a b s k t has = elim has [
  | inl in_b ↦ (in_b.0 ∙ sym t.segment, omega (arith, in_b.1), omega (arith, in_b.1, in_b.2))
  | inr in_a ↦ (in_a.0, omega (arith, in_a.1), omega (arith, in_a.1, in_a.2))
]

pub before_joined : (x a b : Range) → Touch a b → IsBefore x a → IsBefore x b → IsBefore x (joined a b)
before_joined x a b t one two = elim one [
  | inl less ↦ inl less
  | inr both ↦ elim two [
    | inl less ↦ absurd (omega (arith, less, both.0, t.segment))
    | inr other ↦ inr (both.0, omega (arith, both.1, other.1))
  ]
]

pub joined_before : (x a b : Range) → IsBefore x (joined a b) → IsBefore x a
joined_before x a b before = elim before [ inl less ↦ inl less | inr both ↦ inr (both.0, omega (arith, both.1)) ]

-- a range that holds another
pub record Holds (a b : Range) : Type 0 where
  pub segment : a.segment ≡ b.segment
  pub start : a.offset ≤ b.offset
  pub end : b.offset + b.len ≤ a.offset + a.len

pub holding_is : (a b : Range) → is_holding a b ≡ true → Holds a b
holding_is a b e =
    let p = and_parts (eqb a.segment b.segment && leb a.offset b.offset) (leb (b.offset + b.len) (a.offset + a.len)) e in
    let q = and_parts (eqb a.segment b.segment) (leb a.offset b.offset) p.0 in
    record { segment = eqb-true _ _ q.0; start = leb-true _ _ q.1; end = leb-true _ _ p.1 }

pub holding_from : (a b : Range) → a.segment ≡ b.segment → a.offset ≤ b.offset → b.offset + b.len ≤ a.offset + a.len → is_holding a b ≡ true
holding_from a b s o e = and_from _ _ (and_from _ _ (eq-eqb _ _ s) (le-leb _ _ o)) (le-leb _ _ e)

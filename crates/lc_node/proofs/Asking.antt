-- The segments that are asked for, in ascending order.
use Rattle.std.proofs.Common.{◌≡◌, ℕ, zero, suc, ◌+◌, ◌<◌, ◌≤◌, ◌||◌, cond, eqb, Bool, true, false, List, [], ◌∷◌, ◌++◌, All, length, drop, get_or, refl, sym, ap, subst, ◌∙◌, inl, inr, arith, eqb-true, eq-eqb}
use Rattle.std.proofs.lemmas.List.{append-nil, drop_more}
use Rattle.std.proofs.lemmas.Bool.{cases_Bool, cases_lt, or_cases, or_left, or_right, ne_eqb, false≢true}
use Rattle.std.proofs.Math.Bool.{or-false as or_false}
use Rattle.lc_record.specs.Record.{Chain}
use Rattle.lc_record.specs.Transaction.{is_member}
use Rattle.lc_tx.proofs.MemberLemmas.{member_both}
use Rattle.lc_tx.specs.Tx.{IsSetOf}

-- those of the first numbers, from 1, that are among these
abbrev pub asked_to : List ℕ → ℕ → List ℕ
asked_to segments zero = []
asked_to segments (suc n) = asked_to segments n ++ cond (is_member (suc n) segments) (suc n ∷ []) []

only : (segments : List ℕ) (n x : ℕ) → (n ≡ x → ⊥) → is_member x (cond (is_member n segments) (n ∷ []) []) ≡ false
only segments n x apart = elim (is_member n segments) as (λ (b : Bool). is_member x (cond b (n ∷ []) []) ≡ false) [
  | true ↦ or_false (eqb n x) ∙ ne_eqb n x apart
  | false ↦ refl
]

itself : (segments : List ℕ) (n : ℕ) → is_member n (cond (is_member n segments) (n ∷ []) []) ≡ is_member n segments
itself segments n = elim (is_member n segments) as (λ (b : Bool). is_member n (cond b (n ∷ []) []) ≡ b) [
  | true ↦ or_false (eqb n n) ∙ eq-eqb n n refl
  | false ↦ refl
]

above : (segments : List ℕ) (n x : ℕ) → n < x → is_member x (asked_to segments n) ≡ false
above segments zero x high = refl
above segments (suc n) x high = member_both x (asked_to segments n) (cond (is_member (suc n) segments) (suc n ∷ []) [])
    ∙ ((λ i. above segments n x (omega arith) i || only segments (suc n) x (λ e. absurd (omega arith)) i))

zero_out : (segments : List ℕ) (n : ℕ) → is_member 0 (asked_to segments n) ≡ false
zero_out segments zero = refl
zero_out segments (suc n) = member_both 0 (asked_to segments n) (cond (is_member (suc n) segments) (suc n ∷ []) [])
    ∙ ((λ i. zero_out segments n i || only segments (suc n) 0 (λ e. absurd (omega arith)) i))

among : (segments : List ℕ) (n x : ℕ) → 1 ≤ x → x ≤ n → is_member x (asked_to segments n) ≡ is_member x segments
among segments zero x low high = absurd (omega arith)
among segments (suc n) x low high = member_both x (asked_to segments n) (cond (is_member (suc n) segments) (suc n ∷ []) []) ∙ elim (cases_lt n x) [
  | inl last ↦ (let e : x ≡ suc n = omega arith in subst (λ (y : ℕ). (is_member y (asked_to segments n) || is_member y (cond (is_member (suc n) segments) (suc n ∷ []) [])) ≡ is_member y segments) (sym e)
      (λ i. above segments n (suc n) (omega arith) i || itself segments (suc n) i))
  | inr early ↦ (λ i. among segments n x low early i || only segments (suc n) x (λ e. absurd (omega arith)) i) ∙ or_false (is_member x segments)
]

chain_last : (xs : List ℕ) (x : ℕ) → Chain (λ a b. a < b) xs → ((y : ℕ) → is_member y xs ≡ true → y < x) → Chain (λ a b. a < b) (xs ++ x ∷ [])
chain_last [] x chain below = tt
chain_last (y ∷ []) x chain below = (below y (or_left (eqb y y) false (eq-eqb y y refl)), tt)
chain_last (y ∷ z ∷ zs) x chain below = (chain.0, chain_last (z ∷ zs) x chain.1 (λ w is. below w (or_right (eqb y w) (is_member w (z ∷ zs)) is)))

ascends : (segments : List ℕ) (n : ℕ) → Chain (λ a b. a < b) (asked_to segments n)
ascends segments zero = tt
ascends segments (suc n) = elim (is_member (suc n) segments) as (λ (b : Bool). Chain (λ a b. a < b) (asked_to segments n ++ cond b (suc n ∷ []) [])) [
  | true ↦ chain_last (asked_to segments n) (suc n) (ascends segments n) (λ y is. elim (cases_lt n y) [ inl high ↦ absurd (false≢true (sym (above segments n y high) ∙ is)) | inr low ↦ omega arith ])
  | false ↦ subst (Chain (λ a b. a < b)) (sym (append-nil (asked_to segments n))) (ascends segments n)
]

-- all that are asked for, where each is one of the first
pub asked_all : (segments : List ℕ) (n : ℕ) → All (λ s. (1 ≤ s) × (s ≤ n)) segments → IsSetOf segments (asked_to segments n)
asked_all segments n inside = record {
  ascends = ascends segments n;
  same = λ x. elim (cases_Bool (is_member x segments)) [
    | inl is ↦ (let at = member_inside segments x inside is in among segments n x at.0 at.1)
    | inr not ↦ elim x as (λ (y : ℕ). is_member y segments ≡ false → is_member y (asked_to segments n) ≡ is_member y segments) [
      | zero ↦ λ none. zero_out segments n ∙ sym none
      | suc y ↦ λ none. elim (cases_lt n (suc y)) [ inl high ↦ above segments n (suc y) high ∙ sym none | inr low ↦ among segments n (suc y) (omega arith) low ]
    ] not
  ];
}
  where
    member_inside : (xs : List ℕ) (x : ℕ) → All (λ s. (1 ≤ s) × (s ≤ n)) xs → is_member x xs ≡ true → (1 ≤ x) × (x ≤ n)
    member_inside [] x all is = absurd (false≢true is)
    member_inside (y ∷ ys) x all is = elim (or_cases (eqb y x) (is_member x ys) is) [
      | inl here ↦ subst (λ (z : ℕ). (1 ≤ z) × (z ≤ n)) (eqb-true y x here) (all 0 y (omega arith))
      | inr later ↦ member_inside ys x (λ k d within. all (suc k) d (omega arith)) later
    ]

-- Those that are still to be looked at

pub asked_now : (segments : List ℕ) (i s : ℕ) → i < length segments → get_or segments i 0 ≡ s → is_member s (drop i segments) ≡ true
asked_now segments i s within is = ap (is_member s) (drop_more segments i 0 within) ∙ or_left (eqb (get_or segments i 0) s) (is_member s (drop (i + 1) segments)) (eq-eqb (get_or segments i 0) s is)

pub asked_later : (segments : List ℕ) (i s : ℕ) → i < length segments → (get_or segments i 0 ≡ s → ⊥) → is_member s (drop i segments) ≡ is_member s (drop (i + 1) segments)
asked_later segments i s within not = ap (is_member s) (drop_more segments i 0 within) ∙ ap (λ (b : Bool). b || is_member s (drop (i + 1) segments)) (ne_eqb (get_or segments i 0) s not)

pub asked_none : (segments : List ℕ) (i s : ℕ) → length segments ≤ i → is_member s (drop i segments) ≡ false
asked_none [] zero s all = refl
asked_none [] (suc i) s all = refl
asked_none (x ∷ xs) zero s all = absurd (omega arith)
asked_none (x ∷ xs) (suc i) s all = asked_none xs i s (omega arith)

-- One number more

pub asked_more : (segments : List ℕ) (n : ℕ) → is_member (n + 1) segments ≡ true → asked_to segments (n + 1) ≡ asked_to segments n ++ (n + 1) ∷ []
asked_more segments n is = let e : n + 1 ≡ suc n = omega arith in
    ap (asked_to segments) e ∙ ((λ k. asked_to segments n ++ cond (is_member (sym e k) segments) (sym e k ∷ []) []) ∙ ap (λ (b : Bool). asked_to segments n ++ cond b ((n + 1) ∷ []) []) is)

pub asked_same : (segments : List ℕ) (n : ℕ) → is_member (n + 1) segments ≡ false → asked_to segments (n + 1) ≡ asked_to segments n
asked_same segments n not = let e : n + 1 ≡ suc n = omega arith in
    ap (asked_to segments) e ∙ ((λ k. asked_to segments n ++ cond (is_member (sym e k) segments) (sym e k ∷ []) []) ∙ (ap (λ (b : Bool). asked_to segments n ++ cond b ((n + 1) ∷ []) []) not ∙ append-nil (asked_to segments n)))

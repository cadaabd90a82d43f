-- Members of lists.
use Rattle.std.proofs.Common.{◌≡◌, ◌⊎◌, ℕ, zero, suc, ◌<◌, Bool, true, false, not, ◌||◌, eqb, List, [], ◌∷◌, ◌++◌, length, take, get_or, refl, sym, ap, subst, ◌∙◌, inl, inr, arith}
use Rattle.std.proofs.lemmas.Bool.{cases_Bool, false≢true, eqb-true, eq-eqb, ne_eqb, or_cases, or_from, or_left, or_right, false_from_ne_true}
use Rattle.std.specs.Prelude.{if◌then◌else◌}
use Rattle.std.proofs.Math.Bool.{or_assoc}
use Rattle.lc_record.specs.Transaction.{is_member}
use Rattle.lc_record.proofs.LockLemmas.{member_left, member_right as in_second}
use Rattle.lc_tx.specs.Tx.{none_of}

pub member_last : (n : ℕ) (xs : List ℕ) → is_member n (xs ++ n ∷ []) ≡ true
member_last n [] = or_left (eqb n n) false (eq-eqb n n refl)
member_last n (x ∷ xs) = or_right (eqb x n) _ (member_last n xs)

pub member_push : (n x : ℕ) (xs : List ℕ) → is_member n (xs ++ x ∷ []) ≡ true → (is_member n xs ≡ true) ⊎ (x ≡ n)
member_push n x [] e = elim (or_cases (eqb x n) false e) [ inl here ↦ inr (eqb-true x n here) | inr never ↦ absurd (false≢true never) ]
member_push n x (y ∷ xs) e = elim (or_cases (eqb y n) (is_member n (xs ++ x ∷ [])) e) [
  | inl here ↦ inl (or_left (eqb y n) _ here)
  | inr later ↦ elim (member_push n x xs later) [ inl early ↦ inl (or_right (eqb y n) _ early) | inr last ↦ inr last ]
]

pub no_member_push : (n x : ℕ) (xs : List ℕ) → is_member n (xs ++ x ∷ []) ≡ false → (is_member n xs ≡ false) × (x ≡ n → ⊥)
no_member_push n x xs e = elim (cases_Bool (is_member n xs)) [
  | inl was ↦ absurd (false≢true (sym e ∙ member_left n xs (x ∷ []) was))
  | inr not ↦ (not, λ same. false≢true (sym e ∙ subst (λ (k : ℕ). is_member k (xs ++ x ∷ []) ≡ true) same (member_last x xs)))
]

pub not_one : (n x : ℕ) → (x ≡ n → ⊥) → is_member n (x ∷ []) ≡ false
not_one n x other = or_from (eqb x n) false (ne_eqb x n other) refl

pub is_one : (n x : ℕ) → is_member n (x ∷ []) ≡ true → x ≡ n
is_one n x e = elim (or_cases (eqb x n) false e) [ inl here ↦ eqb-true x n here | inr never ↦ absurd (false≢true never) ]

pub one_is : (x : ℕ) → is_member x (x ∷ []) ≡ true
one_is x = or_left (eqb x x) false (eq-eqb x x refl)

pub member_at : (xs : List ℕ) (i d : ℕ) → i < length xs → is_member (get_or xs i d) xs ≡ true
member_at [] i d within = absurd (omega arith)
member_at (x ∷ xs) zero d within = or_left (eqb x x) _ (eq-eqb x x refl)
member_at (x ∷ xs) (suc i) d within = or_right (eqb x (get_or xs i d)) _ (member_at xs i d (omega arith))

pub member_take : (n i : ℕ) (xs : List ℕ) → is_member n (take i xs) ≡ true → is_member n xs ≡ true
member_take n zero xs e = absurd (false≢true e)
member_take n (suc i) [] e = absurd (false≢true e)
member_take n (suc i) (x ∷ xs) e = elim (or_cases (eqb x n) (is_member n (take i xs)) e) [ inl here ↦ or_left (eqb x n) _ here | inr later ↦ or_right (eqb x n) _ (member_take n i xs later) ]

-- Two lists

pub member_both : (n : ℕ) (xs ys : List ℕ) → is_member n (xs ++ ys) ≡ (is_member n xs || is_member n ys)
member_both n [] ys = refl
member_both n (x ∷ xs) ys = ap (λ (b : Bool). eqb x n || b) (member_both n xs ys) ∙ sym (or_assoc (eqb x n) (is_member n xs) (is_member n ys))

pub of_both : (n : ℕ) (xs ys : List ℕ) → is_member n (xs ++ ys) ≡ true → (is_member n xs ≡ true) ⊎ (is_member n ys ≡ true)
of_both n xs ys e = or_cases (is_member n xs) (is_member n ys) (sym (member_both n xs ys) ∙ e)

pub neither : (n : ℕ) (xs ys : List ℕ) → is_member n (xs ++ ys) ≡ false → (is_member n xs ≡ false) × (is_member n ys ≡ false)
neither n xs ys e = (
  false_from_ne_true (is_member n xs) (λ is. false≢true (sym e ∙ member_left n xs ys is)),
  false_from_ne_true (is_member n ys) (λ is. false≢true (sym e ∙ in_second n xs ys is)),
)

pub not_both : (n : ℕ) (xs ys : List ℕ) → is_member n xs ≡ false → is_member n ys ≡ false → is_member n (xs ++ ys) ≡ false
not_both n xs ys one two = member_both n xs ys ∙ or_from (is_member n xs) (is_member n ys) one two

-- those that are none of these
pub of_others : (n : ℕ) (these those : List ℕ) → is_member n (none_of these those) ≡ true → (is_member n those ≡ true) × (is_member n these ≡ false)
of_others n these [] e = absurd (false≢true e)
of_others n these (x ∷ those) e =
    elim (is_member x these) as (λ b. is_member x these ≡ b → is_member n (if not b then x ∷ none_of these those else none_of these those) ≡ true
    → (is_member n (x ∷ those) ≡ true) × (is_member n these ≡ false)) [
      | true ↦ λ one later. let is = of_others n these those later in (or_right (eqb x n) (is_member n those) is.0, is.1)
      | false ↦ λ not_one member. elim (or_cases (eqb x n) (is_member n (none_of these those)) member) [
        | inl here ↦ (or_left (eqb x n) (is_member n those) here, subst (λ (k : ℕ). is_member k these ≡ false) (eqb-true x n here) not_one)
        | inr later ↦ let is = of_others n these those later in (or_right (eqb x n) (is_member n those) is.0, is.1)
      ]
    ] refl e

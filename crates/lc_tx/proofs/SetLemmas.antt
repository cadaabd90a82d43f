-- Numbers as a set.
use Rattle.std.proofs.Common.{◌≡◌, ℕ, ◌+◌, ◌<◌, ◌≤◌, Bool, true, false, not, eqb, ltb, ◌||◌, List, [], ◌∷◌, ◌++◌, length, refl, sym, ap, subst, ◌∙◌, inl, inr, arith}
use Rattle.std.proofs.lemmas.Bool.{cond_both, eqb-true, eqb-false, ltb-true, ltb-false, eq-eqb, or_cases, or_left, or_right}
use Rattle.std.proofs.lemmas.List.{append-nil, append_assoc}
use Rattle.std.specs.List.{list_any}
use Rattle.std.specs.Prelude.{if◌then◌else◌}
use Rattle.lc_record.specs.Record.{Chain}
use Rattle.lc_record.specs.Transaction.{is_member}
use Rattle.lc_record.proofs.LockLemmas.{member_left}
use Rattle.lc_record.proofs.ListLemmas.{same_Bool as same_bool}
use Rattle.lc_tx.specs.Prepared.{with_number}
use Rattle.lc_tx.specs.Tx.{IsSetOf, none_of}
use Rattle.lc_tx.specs.Walk.{with_in_order}
use Rattle.lc_tx.proofs.MemberLemmas.{member_last, member_push}

abbrev Ascend : List ℕ → Type 0
Ascend xs = Chain (λ a b. a < b) xs

-- a number before all of an ascending list
before_number : (x n : ℕ) (xs : List ℕ) → x < n → Ascend (x ∷ xs) → Ascend (x ∷ with_in_order n xs)
before_number x n [] less up = (less, tt)
before_number x n (y ∷ xs) less up =
    cond_both (ltb y n) (y ∷ with_in_order n xs) (with_number n (y ∷ xs)) (λ (l : List ℕ). Ascend (x ∷ l))
    (λ e. (up.0, before_number y n xs (ltb-true y n e) up.1))
    (λ e. cond_both (eqb n y) (y ∷ xs) (n ∷ y ∷ xs) (λ (l : List ℕ). Ascend (x ∷ l)) (λ same. up) (λ other. (less, (above n y (ltb-false y n e) (eqb-false n y other), up.1))))
  where
    above : (n y : ℕ) → n ≤ y → (n ≡ y → ⊥) → n < y
    above n y most other = omega (arith, most, other)

pub ascends : (n : ℕ) (xs : List ℕ) → Ascend xs → Ascend (with_in_order n xs)
ascends n [] up = tt
ascends n (y ∷ xs) up =
    cond_both (ltb y n) (y ∷ with_in_order n xs) (with_number n (y ∷ xs)) (λ (l : List ℕ). Ascend l)
    (λ e. before_number y n xs (ltb-true y n e) up)
    (λ e. cond_both (eqb n y) (y ∷ xs) (n ∷ y ∷ xs) (λ (l : List ℕ). Ascend l) (λ same. up) (λ other. (above n y (ltb-false y n e) (eqb-false n y other), up)))
  where
    above : (n y : ℕ) → n ≤ y → (n ≡ y → ⊥) → n < y
    above n y most other = omega (arith, most, other)

-- its members are those of the list, and the number
pub order_has : (k n : ℕ) (xs : List ℕ) → is_member k (with_in_order n xs) ≡ (eqb n k || is_member k xs)
order_has k n [] = refl
order_has k n (y ∷ xs) =
    cond_both (ltb y n) (y ∷ with_in_order n xs) (with_number n (y ∷ xs)) (λ (l : List ℕ). is_member k l ≡ (eqb n k || is_member k (y ∷ xs)))
    (λ e. ap (λ (b : Bool). eqb y k || b) (order_has k n xs) ∙ turned (eqb y k) (eqb n k) (is_member k xs))
    (λ e. cond_both (eqb n y) (y ∷ xs) (n ∷ y ∷ xs) (λ (l : List ℕ). is_member k l ≡ (eqb n k || is_member k (y ∷ xs)))
    (λ same. sym (twice (eqb n k) (eqb y k) (is_member k xs) (ap (λ (z : ℕ). eqb z k) (eqb-true n y same)))) (λ other. refl))
  where
    turned : (a b c : Bool) → (a || (b || c)) ≡ (b || (a || c))
    turned true true c = refl
    turned true false c = refl
    turned false true c = refl
    turned false false c = refl

    twice : (a b c : Bool) → a ≡ b → (a || (b || c)) ≡ (b || c)
    twice true b c e = ap (λ (z : Bool). z || c) e
    twice false b c e = refl

pub set_more : (xs set next : List ℕ) (n : ℕ) → IsSetOf xs set → next ≡ with_in_order n set → IsSetOf (xs ++ n ∷ []) next
set_more xs set next n is e = subst (λ (l : List ℕ). IsSetOf (xs ++ n ∷ []) l) (sym e) (record {
  ascends = ascends n set is.ascends;
  same = λ k. order_has k n set ∙ ap (λ (b : Bool). eqb n k || b) (is.same k) ∙ same_bool (eqb n k || is_member k xs) (is_member k (xs ++ n ∷ []))
      (λ h. elim (or_cases (eqb n k) (is_member k xs) h) [
        | inl last ↦ subst (λ (z : ℕ). is_member z (xs ++ n ∷ []) ≡ true) (eqb-true n k last) (member_last n xs)
        | inr early ↦ member_left k xs (n ∷ []) early
      ])
      (λ h. elim (member_push k n xs h) [ inl early ↦ or_right (eqb n k) _ early | inr last ↦ or_left (eqb n k) _ (eq-eqb n k last) ]);
})

-- what `contains` finds
pub any_is : (n : ℕ) (xs : List ℕ) → list_any (λ y. eqb y n) xs ≡ is_member n xs
any_is n [] = refl
any_is n (x ∷ xs) = ap (λ (b : Bool). eqb x n || b) (any_is n xs)

-- what `contains` found in these
pub any_found : (result told : Bool) (n : ℕ) (xs ys : List ℕ) → result ≡ list_any (λ y. eqb y n) xs → xs ≡ ys → result ≡ told → is_member n ys ≡ told
any_found result told n xs ys is same e = sym (is ∙ any_is n xs ∙ ap (is_member n) same) ∙ e

-- How many there are

pub longer : (n : ℕ) (xs : List ℕ) → length xs ≤ length (with_in_order n xs)
longer n [] = omega arith
longer n (y ∷ xs) =
    cond_both (ltb y n) (y ∷ with_in_order n xs) (with_number n (y ∷ xs)) (λ (l : List ℕ). length (y ∷ xs) ≤ length l)
    (λ e. omega (arith, longer n xs))
    (λ e. cond_both (eqb n y) (y ∷ xs) (n ∷ y ∷ xs) (λ (l : List ℕ). length (y ∷ xs) ≤ length l) (λ same. omega arith) (λ other. omega arith))

-- the set of more numbers is at least as long
pub with_rest : (ns xs set : List ℕ) → IsSetOf xs set → (all : List ℕ) × IsSetOf (xs ++ ns) all × (length set ≤ length all)
with_rest [] xs set is = (set, subst (λ (l : List ℕ). IsSetOf l set) (sym (append-nil xs)) is, omega arith)
with_rest (n ∷ ns) xs set is =
    let later = with_rest ns (xs ++ n ∷ []) (with_in_order n set) (set_more xs set (with_in_order n set) n is refl) in
    (later.0, subst (λ (l : List ℕ). IsSetOf l later.0) (append_assoc xs (n ∷ []) ns) later.1, omega (arith, later.2, longer n set))

ascending_few : (x : ℕ) (xs : List ℕ) (most : ℕ) → Ascend (x ∷ xs) → ((k : ℕ) → is_member k (x ∷ xs) ≡ true → k ≤ most) → x + length xs ≤ most
ascending_few x [] most up below = omega (arith, below x (or_left (eqb x x) false (eq-eqb x x refl)))
ascending_few x (y ∷ xs) most up below = omega (arith, up.0, ascending_few y xs most up.1 (λ k is. below k (or_right (eqb x k) _ is)))

-- a set of numbers from 1 up to a number has at most so many
pub few_numbers : (most : ℕ) (set : List ℕ) → Ascend set → ((k : ℕ) → is_member k set ≡ true → (1 ≤ k) × (k ≤ most)) → length set ≤ most
few_numbers most [] up within = omega arith
few_numbers most (x ∷ xs) up within =
    omega (arith, ascending_few x xs most up (λ k is. (within k is).1), (within x (or_left (eqb x x) (is_member x xs) (eq-eqb x x refl))).0)

-- Numbers that are none of these

pub others_both : (these xs ys : List ℕ) → none_of these (xs ++ ys) ≡ none_of these xs ++ none_of these ys
others_both these [] ys = refl
others_both these (x ∷ xs) ys =
    elim (is_member x these) as (λ b. (if not b then x ∷ none_of these (xs ++ ys) else none_of these (xs ++ ys)) ≡ (if not b then x ∷ none_of these xs else none_of these xs) ++ none_of these ys) [
      | true ↦ others_both these xs ys
      | false ↦ ap (λ (l : List ℕ). x ∷ l) (others_both these xs ys)
    ]

pub others_one : (these : List ℕ) (x : ℕ) → is_member x these ≡ false → none_of these (x ∷ []) ≡ x ∷ []
others_one these x none = ap (λ (b : Bool). if not b then x ∷ [] else []) none

pub others_none : (these : List ℕ) (x : ℕ) → is_member x these ≡ true → none_of these (x ∷ []) ≡ []
others_none these x one = ap (λ (b : Bool). if not b then x ∷ [] else []) one

pub others_of_none : (xs : List ℕ) → none_of [] xs ≡ xs
others_of_none [] = refl
others_of_none (x ∷ xs) = ap (λ (l : List ℕ). x ∷ l) (others_of_none xs)

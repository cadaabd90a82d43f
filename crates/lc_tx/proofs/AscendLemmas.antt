-- Numbers as a set have one ascending list.
use Rattle.std.proofs.Common.{◌≡◌, ◌⊎◌, ℕ, zero, suc, ◌+◌, ◌<◌, ◌≤◌, Bool, true, false, ◌||◌, ◌==◌, List, [], ◌∷◌, filter, refl, sym, ◌∙◌, ap, subst, arith, inl, inr, true≢false, eqb-true}
use Rattle.std.specs.Prelude.{if◌then◌else◌, IsTrue}
use Rattle.lc_record.specs.Record.{Chain}
use Rattle.lc_record.specs.Transaction.{is_member}
use Rattle.lc_record.specs.Marks.{counting, ascending}
use Rattle.lc_record.specs.declared.geometry.Geometry.{Geometry}
use Rattle.lc_record.proofs.LockLemmas.{counted_from, is_counted, member_first}
use Rattle.lc_tx.specs.Tx.{IsSetOf}

abbrev Ascends : List ℕ → Type 0
Ascends xs = Chain (λ a b. a < b) xs

behind : (x : ℕ) (xs : List ℕ) → Ascends (x ∷ xs) → Ascends xs
behind x [] chain = chain
behind x (y ∷ ys) chain = chain.1

-- what follows is greater
greater : (x : ℕ) (xs : List ℕ) (n : ℕ) → Ascends (x ∷ xs) → is_member n xs ≡ true → x < n
greater x [] n chain member = absurd (true≢false (sym member))
greater x (y ∷ ys) n chain member =
    elim (y == n) as (λ b. (y == n) ≡ b → (b || is_member n ys) ≡ true → x < n) [
      | true ↦ λ e here. let same : y ≡ n = eqb-true y n e in subst (λ (k : ℕ). x < k) same chain.0
      | false ↦ λ e later. let next : y < n = greater y ys n chain.1 later in omega (arith, chain.0, next)
    ] refl member

not_behind : (x : ℕ) (xs : List ℕ) → Ascends (x ∷ xs) → is_member x xs ≡ false
not_behind x xs chain = elim (is_member x xs) as (λ b. is_member x xs ≡ b → b ≡ false) [
  | true ↦ λ e. absurd (let less : x < x = greater x xs x chain e in omega (arith, less))
  | false ↦ λ e. refl
] refl

-- a member is the first, or greater
first_or_greater : (x : ℕ) (xs : List ℕ) (n : ℕ) → Ascends (x ∷ xs) → is_member n (x ∷ xs) ≡ true → (n ≡ x) ⊎ (x < n)
first_or_greater x xs n chain member =
    elim (x == n) as (λ b. (x == n) ≡ b → (b || is_member n xs) ≡ true → (n ≡ x) ⊎ (x < n)) [
      | true ↦ λ e here. inl (sym (eqb-true x n e))
      | false ↦ λ e later. inr (greater x xs n chain later)
    ] refl member

one_list : (xs ys : List ℕ) → Ascends xs → Ascends ys → ((n : ℕ) → is_member n xs ≡ is_member n ys) → xs ≡ ys
one_list [] [] one two same = refl
one_list [] (y ∷ ys) one two same = absurd (true≢false (sym (member_first y ys) ∙ sym (same y)))
one_list (x ∷ xs) [] one two same = absurd (true≢false (sym (member_first x xs) ∙ same x))
one_list (x ∷ xs) (y ∷ ys) one two same =
    let first : x ≡ y = by_order (first_or_greater y ys x two (sym (same x) ∙ member_first x xs)) (first_or_greater x xs y one (same y ∙ member_first y ys)) in
    let others : xs ≡ ys = one_list xs ys (behind x xs one) (behind y ys two) (λ n. later first n) in
    ap (λ n. n ∷ xs) first ∙ ap (λ l. y ∷ l) others
  where
    by_order : (x ≡ y) ⊎ (y < x) → (y ≡ x) ⊎ (x < y) → x ≡ y
    by_order one two = grind arith

    later : x ≡ y → (n : ℕ) → is_member n xs ≡ is_member n ys
    later first n = elim (x == n) as (λ b. (x == n) ≡ b → is_member n xs ≡ is_member n ys) [
      | true ↦ λ e.
          let here : x ≡ n = eqb-true x n e in
          subst (λ (k : ℕ). is_member k xs ≡ is_member k ys) here
          (not_behind x xs one ∙ sym (subst (λ (k : ℕ). is_member k ys ≡ false) (sym first) (not_behind y ys two)))
      | false ↦ λ e.
          let other : (y == n) ≡ false = ap (λ k. k == n) (sym first) ∙ e in
          sym (ap (λ b. b || is_member n xs) e) ∙ same n ∙ ap (λ b. b || is_member n ys) other
    ] refl

-- Those that count up, filtered

chain_front : (x from : ℕ) (xs : List ℕ) → ((n : ℕ) → is_member n xs ≡ true → from ≤ n) → x < from → Ascends xs → Ascends (x ∷ xs)
chain_front x from [] least less chain = chain
chain_front x from (y ∷ ys) least less chain = (let first : from ≤ y = least y (member_first y ys) in omega (arith, less, first), chain)

ascends_counted : (p : ℕ → Bool) (from len : ℕ) → Ascends (filter p (counting from len))
ascends_counted p from zero = tt
ascends_counted p from (suc len) = elim (p from) as (λ b. Ascends (if b then from ∷ filter p (counting (from + 1) len) else filter p (counting (from + 1) len))) [
  | true ↦ chain_front from (from + 1) (filter p (counting (from + 1) len)) (λ n member. (counted_from p (from + 1) len n member).0) (omega arith) (ascends_counted p (from + 1) len)
  | false ↦ ascends_counted p (from + 1) len
]

pub set_is_ascending : (g : Geometry) (segments set : List ℕ) → IsSetOf segments set → ((s : ℕ) → IsTrue (is_member s segments) → (1 ≤ s) × (s ≤ g.segments)) → set ≡ ascending g segments
set_is_ascending g segments set is known =
    one_list set (ascending g segments) is.ascends (ascends_counted (λ s. is_member s segments) 1 g.segments) (λ n. is.same n ∙ by_member n)
  where
    by_member : (n : ℕ) → is_member n segments ≡ is_member n (ascending g segments)
    by_member n = elim (is_member n segments) as (λ b. is_member n segments ≡ b → b ≡ is_member n (ascending g segments)) [
      | true ↦ λ e. let bounds : (1 ≤ n) × (n ≤ g.segments) = known n e in sym (is_counted (λ s. is_member s segments) 1 g.segments n bounds.0 (omega (arith, bounds.1)) e)
      | false ↦ λ e. elim (is_member n (ascending g segments)) as (λ b. is_member n (ascending g segments) ≡ b → false ≡ b) [
        | true ↦ λ member. absurd (true≢false (sym (counted_from (λ s. is_member s segments) 1 g.segments n member).2 ∙ e))
        | false ↦ λ member. refl
      ] refl
    ] refl

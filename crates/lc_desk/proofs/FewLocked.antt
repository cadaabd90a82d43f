-- No more than 16 segments can be locked.
use Rattle.std.proofs.Common.{◌≡◌, ◌⊎◌, ℕ, ◌+◌, ◌<◌, ◌≤◌, true, List, [], ◌∷◌, length, refl, sym, ◌∙◌, inl, inr, arith, eq-eqb, ne_eqb, true≢false}
use Rattle.std.specs.Prelude.{vec_len}
use Rattle.std.proofs.lemmas.Bool.{cases_eq}
use Rattle.lc_record.specs.Record.{Chain}
use Rattle.lc_record.specs.Transaction.{is_member}
use Rattle.lc_record.proofs.LockLemmas.{member_first as first_member}
use Rattle.lc_tx.specs.Images.{IsLockable}
use Rattle.lc_tx.specs.Tx.{IsSetOf, none_of}
use Rattle.lc_tx.proofs.MemberLemmas.{of_others}
use Rattle.lc_desk.specs.Here.{the_images}
use Rattle.lc_desk.specs.declared.here.Here.{Here}
use Rattle.lc_desk.proofs.Readied.{known_here}

-- what follows is greater
greater : (x : ℕ) (xs : List ℕ) (n : ℕ) → Chain (λ a b. a < b) (x ∷ xs) → is_member n xs ≡ true → x < n
greater x [] n chain member = absurd (true≢false (sym member))
greater x (y ∷ ys) n chain member = elim (cases_eq y n) [
  | inl same ↦ omega (arith, same, chain.0)
  | inr differ ↦ (let next : y < n = greater y ys n chain.1 (rw (ne_eqb y n differ) at member) in omega (arith, chain.0, next))
]

behind : (x : ℕ) (xs : List ℕ) → Chain (λ a b. a < b) (x ∷ xs) → Chain (λ a b. a < b) xs
behind x [] chain = chain
behind x (y ∷ ys) chain = chain.1

later_member : (x : ℕ) (xs : List ℕ) (n : ℕ) → is_member n xs ≡ true → is_member n (x ∷ xs) ≡ true
later_member x xs n member = elim (cases_eq x n) [
  | inl same ↦ rw (eq-eqb x n same) refl
  | inr differ ↦ rw (ne_eqb x n differ) member
]

-- so many ascending numbers lie between these
few_between : (set : List ℕ) (low high : ℕ) → low ≤ high + 1 → Chain (λ a b. a < b) set → ((n : ℕ) → is_member n set ≡ true → (low ≤ n) × (n ≤ high)) → length set + low ≤ high + 1
few_between [] low high room chain between = omega (arith, room)
few_between (x ∷ xs) low high room chain between =
    let first = between x (first_member x xs) in
    let others : length xs + (x + 1) ≤ high + 1 =
    few_between xs (x + 1) high (omega (arith, first.1)) (behind x xs chain)
    (λ n member. (let less = greater x xs n chain member in (omega (arith, less), (between n (later_member x xs n member)).1))) in
    omega (arith, others, first.0)

few_set : (numbers set : List ℕ) → IsSetOf numbers set → ((n : ℕ) → is_member n numbers ≡ true → (1 ≤ n) × (n ≤ 16)) → 16 < length set → ⊥
few_set numbers set is between many =
    let few : length set + 1 ≤ 16 + 1 = few_between set 1 16 (omega arith) is.ascends (λ n member. between n (sym (is.same n) ∙ member)) in
    omega (arith, few, many)

-- more than 16 of one kind are not here
pub never_many : (here : Here) (segments reading : List ℕ) → vec_len here.slots ≤ 16 → ((s : ℕ) → IsLockable the_images here segments reading s)
    → ((set : List ℕ) × IsSetOf segments set × (16 < length set)) ⊎ ((set : List ℕ) × IsSetOf (none_of segments reading) set × (16 < length set)) → ⊥
never_many here segments reading few free (inl many) =
    few_set segments many.0 many.1 (λ n member. known_here here few n ((free n).for_writing member).0) many.2
never_many here segments reading few free (inr many) =
    few_set (none_of segments reading) many.0 many.1
    (λ n member. known_here here few n ((free n).for_reading (of_others n segments reading member).0).0) many.2

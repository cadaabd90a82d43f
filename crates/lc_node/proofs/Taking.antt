-- What stands at each place of a list from which one thing is taken.
use Rattle.std.proofs.Common.{◌≡◌, ℕ, zero, suc, ◌+◌, ◌<◌, ◌≤◌, Bool, true, false, if◌then◌else◌, List, [], ◌∷◌, ◌++◌, Option, None, Some, IfSome, drop, length, set, take, refl, sym, ap, subst, ◌∙◌, arith, inl, inr}
use Rattle.std.specs.Prelude.{option_map, slice_get}
use Rattle.std.proofs.lemmas.Bool.{cases_eq, cases_lt}
use Rattle.std.proofs.lemmas.Option.{slice_get_past}
use Rattle.std.proofs.lemmas.List.{take-append-le, take_all}
use Rattle.lc_record.proofs.ListLemmas.{slice_get-drop as get-drop, slice_get-set_same as set_here, slice_get-set_other as set_beside}

module _ {A : Type 0} where
  -- a list that is changed place by place: up to a place it is changed
  pub changed_more : (f : ℕ → A → A) (all xs : List A) (i : ℕ) (old new : A) → slice_get xs i ≡ Some old → new ≡ f i old
      → ((k : ℕ) → k < i → slice_get xs k ≡ option_map (f k) (slice_get all k)) → ((k : ℕ) → i ≤ k → slice_get xs k ≡ slice_get all k)
      → (k : ℕ) → k < i + 1 → slice_get (set xs i new) k ≡ option_map (f k) (slice_get all k)
  changed_more f all xs i old new there is changed rest k within = elim (cases_eq k i) [
    | inl same ↦
        (let here : slice_get (set xs i new) i ≡ option_map (f i) (slice_get all i) =
        set_here xs i old new there ∙ ap (λ (x : A). Some x) is ∙ ap (option_map (f i)) (sym there ∙ rest i (omega arith)) in
        subst (λ (n : ℕ). slice_get (set xs i new) n ≡ option_map (f n) (slice_get all n)) (sym same) here)
    | inr other ↦ set_beside xs i k new other ∙ changed k (omega (arith, within, other))
  ]

  pub changed_all : (f : ℕ → A → A) (all xs : List A) (n : ℕ) → length all ≤ n → ((k : ℕ) → k < n → slice_get xs k ≡ option_map (f k) (slice_get all k))
      → ((k : ℕ) → n ≤ k → slice_get xs k ≡ slice_get all k) → (k : ℕ) → slice_get xs k ≡ option_map (f k) (slice_get all k)
  changed_all f all xs n long changed rest k = elim (cases_lt k n) [
    | inl within ↦ changed k within
    | inr behind ↦
        (let none : slice_get all k ≡ None = slice_get_past all k (omega (arith, long, behind)) in
        rest k behind ∙ none ∙ ap (option_map (f k)) (sym none))
  ]

  -- what was taken from it, if it was
  pub taken_is : (P : A → Type 0) (has : Bool) (old taken : Option A) → taken ≡ (if has then old else None) → ((x : A) → old ≡ Some x → P x) → IfSome taken P
  taken_is P true None taken is each = subst (λ (o : Option A). IfSome o P) (sym is) cc
  taken_is P true (Some x) taken is each = subst (λ (o : Option A). IfSome o P) (sym is) (each x refl)
  taken_is P false old taken is each = subst (λ (o : Option A). IfSome o P) (sym is) cc

  -- what stands in front of what was taken out
  pub front_is : (xs : List A) (i k : ℕ) → k < i → slice_get (take i xs ++ drop (suc i) xs) k ≡ slice_get xs k
  front_is xs zero k less = absurd (omega (arith, less))
  front_is [] (suc i) k less = refl
  front_is (x ∷ xs) (suc i) zero less = refl
  front_is (x ∷ xs) (suc i) (suc k) less = front_is xs i k (omega (arith, less))

  -- and what stands after it
  pub behind_is : (xs : List A) (i k : ℕ) → slice_get (take i xs ++ drop (suc i) xs) (i + k) ≡ slice_get xs (suc i + k)
  behind_is xs zero k = (let same : 0 + k ≡ k = omega arith in ap (slice_get (drop 1 xs)) same ∙ get-drop 1 k xs)
  behind_is [] (suc i) k = refl
  behind_is (x ∷ xs) (suc i) k =
      let here : suc i + k ≡ suc (i + k) = omega arith in
      let there : suc (suc i + k) ≡ suc (suc i) + k = omega arith in
      ap (slice_get (x ∷ (take i xs ++ drop (suc i) xs))) here ∙ behind_is xs i k ∙ ap (slice_get (x ∷ xs)) there

  -- a part of a list that was lent whole stands there as it came back
  pub all_back : (n : ℕ) (xs ys : List A) → length xs ≡ n → take n (xs ++ ys) ≡ xs
  all_back n xs ys long = take-append-le n xs ys (omega (arith, long)) ∙ take_all n xs (omega (arith, long))

-- What stands at each place of a list that is filled, or from whose front things are taken.
use Rattle.std.proofs.Common.{◌≡◌, ℕ, zero, suc, ◌+◌, ◌<◌, List, [], ◌∷◌, ◌++◌, drop, length, Some, sym, ap, subst, ◌∙◌}
use Rattle.std.specs.Prelude.{slice_get, slice_index_or}
use Rattle.std.proofs.lemmas.Option.{slice_get-get_or}
use Rattle.lc_record.proofs.ListLemmas.{slice_get-drop as get-drop, each_push as each_pushed}

module _ {A : Type 0} where
  none_at : (k : ℕ) (x : A) → slice_get [] k ≡ Some x → ⊥
  none_at zero x got = cc
  none_at (suc k) x got = cc

  pub each_none : (P : ℕ → A → Type 0) (xs : List A) → xs ≡ [] → (k : ℕ) (x : A) → slice_get xs k ≡ Some x → P k x
  each_none P xs none k x got = absurd (none_at k x (ap (λ (l : List A). slice_get l k) (sym none) ∙ got))

  -- one more after those of a list
  pub each_more : (P : ℕ → A → Type 0) (new xs : List A) (y : A) (place : ℕ) → new ≡ xs ++ y ∷ [] → length xs ≡ place → ((k : ℕ) (x : A) → slice_get xs k ≡ Some x → P k x) → P place y
      → (k : ℕ) (x : A) → slice_get new k ≡ Some x → P k x
  each_more P new xs y place is at h here k x got =
      each_pushed P xs y h (subst (λ (n : ℕ). P n y) (sym at) here) k x (ap (λ (l : List A). slice_get l k) (sym is) ∙ got)

  -- what is taken from the front
  pub first_is : (xs : List A) (x : A) → 0 < length xs → x ≡ slice_index_or xs 0 x → slice_get xs 0 ≡ Some x
  first_is xs x some is = slice_get-get_or xs 0 x some ∙ ap Some (sym is)

  -- what is left after it
  pub left_is : (xs left : List A) (k : ℕ) (x : A) → left ≡ drop 1 xs → slice_get left k ≡ Some x → slice_get xs (1 + k) ≡ Some x
  left_is xs left k x is got = sym (get-drop 1 k xs) ∙ ap (λ (l : List A). slice_get l k) (sym is) ∙ got

-- Things that are taken from the front of a list, one after another.
use Rattle.std.proofs.Common.{◌≡◌, ℕ, ◌+◌, List, [], ◌∷◌, ◌++◌, take, map, Some, ap, ◌∙◌}
use Rattle.std.specs.Prelude.{slice_get}
use Rattle.std.proofs.lemmas.List.{take_more, map-append}
use Rattle.std.proofs.lemmas.Option.{get_or_from_slice_get, slice_get_within}

module _ {A : Type 0} where
  -- one more after those that were taken
  pub taken_more : (all : List A) (taken : ℕ) (x : A) → slice_get all taken ≡ Some x → take (taken + 1) all ≡ take taken all ++ x ∷ []
  taken_more all taken x got = take_more all taken x (slice_get_within all taken x got) ∙ ap (λ (y : A). take taken all ++ y ∷ []) (get_or_from_slice_get all taken x x got)

module _ {A B : Type 0} where
  pub mapped_more : (f : A → B) (all : List A) (taken : ℕ) (x : A) → slice_get all taken ≡ Some x → map f (take (taken + 1) all) ≡ map f (take taken all) ++ f x ∷ []
  mapped_more f all taken x got = ap (map f) (taken_more all taken x got) ∙ map-append f (take taken all) (x ∷ [])

-- The items of a list that are removed one by one, from the first.
use Rattle.std.proofs.Common.{◌≡◌, ℕ, ◌+◌, ◌<◌, List, [], ◌∷◌, ◌++◌, map, take, drop, length, sym, ap, ◌∙◌}
use Rattle.std.specs.Prelude.{slice_index_or}
use Rattle.std.proofs.lemmas.List.{map-append, take_more}
use Rattle.std.proofs.lemmas.Option.{get_or_from_slice_get}
use Rattle.lc_record.proofs.ListLemmas.{left_first as next_left}

-- what is removed is the next of all
pub next_removed : {A : Type 0} (all left : List A) (n : ℕ) (x : A) → left ≡ drop n all → n < length all → x ≡ slice_index_or left 0 x → take (n + 1) all ≡ take n all ++ x ∷ []
next_removed {A} all left n x is within value =
    take_more all n x within ∙ ap (λ (y : A). take n all ++ y ∷ []) (get_or_from_slice_get all n x x (next_left all left n x is within value))

-- and what is kept of each
pub mapped_next : {A B : Type 0} (f : A → B) (all : List A) (n : ℕ) (x : A) (done later : List B) → take (n + 1) all ≡ take n all ++ x ∷ [] → done ≡ map f (take n all) → later ≡ done ++ f x ∷ [] → later ≡ map f (take (n + 1) all)
mapped_next {A} {B} f all n x done later next is more =
    more ∙ ap (λ (l : List B). l ++ f x ∷ []) is ∙ sym (map-append f (take n all) (x ∷ [])) ∙ ap (map f) (sym next)

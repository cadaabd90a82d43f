-- Of the store: lists that are made or filled item by item, and what a desk has whose slots are of their segments.
use Rattle.std.proofs.Common.{◌≡◌, ℕ, zero, suc, ◌+◌, ◌<◌, List, [], ◌∷◌, ◌++◌, map, drop, length, Option, Some, None, sym, ap, subst, ◌∙◌, arith}
use Rattle.std.specs.Prelude.{slice_get, slice_index_or, replicate}
use Rattle.std.proofs.lemmas.List.{append_assoc, map-append}
use Rattle.lc_token.specs.declared.token.Token.{Token}
use Rattle.lc_events.specs.Nodes.{AreNamed}

-- the first of what is left goes after what is done
pub goes_over : {A B : Type 0} (f : A → B) (done later : List A) (left rest all : List B) (item : A) (first : B) → later ≡ done ++ item ∷ [] → rest ≡ drop 1 left → map f done ++ left ≡ all
    → 0 < length left → first ≡ slice_index_or left 0 first → f item ≡ first → map f later ++ rest ≡ all
goes_over f done later [] rest all item first more less is some value same = absurd (omega (arith, some))
goes_over {A} {B} f done later (b ∷ bs) rest all item first more less is some value same =
    ap (λ (l : List A). map f l ++ rest) more ∙ ap (λ (l : List B). map f (done ++ item ∷ []) ++ l) less
    ∙ ap (λ (l : List B). l ++ bs) (map-append f done (item ∷ [])) ∙ append_assoc (map f done) (f item ∷ []) bs
    ∙ ap (λ (y : B). map f done ++ y ∷ bs) (same ∙ value) ∙ is

pub named_none : (n : ℕ) (tokens : List (Option Token)) → tokens ≡ replicate n None → AreNamed tokens
named_none n tokens is = subst AreNamed (sym is) (so n)
  where
    none_at : (n k : ℕ) (token : Token) → slice_get (replicate n None) k ≡ Some (Some token) → ⊥
    none_at zero k token got = absurd cc
    none_at (suc n) zero token got = absurd cc
    none_at (suc n) (suc k) token got = none_at n k token got

    so : (n : ℕ) → AreNamed (replicate n None)
    so n k token got = absurd (none_at n k token got)

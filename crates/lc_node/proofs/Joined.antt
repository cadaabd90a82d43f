-- Of a node: lists that are filled side by side, and a list of which each thing is so, taken from its front; and the
-- nodes that came up so.
use Rattle.std.proofs.Common.{◌≡◌, ℕ, List, [], ◌∷◌, ◌++◌, All, Some, get_or, sym, subst}
use Rattle.std.specs.Prelude.{slice_get}
use Rattle.std.proofs.lemmas.Option.{slice_get-get_or}
use Rattle.std.proofs.lemmas.List.Elements.{All-push}

module _ {A : Type 0} where
  pub all_more : (P : A → Type 0) (new xs : List A) (x : A) → new ≡ xs ++ x ∷ [] → All P xs → P x → All P new
  all_more P new xs x is all here = subst (All P) (sym is) (All-push P xs x all here)

  -- what each has at its place, all have
  pub all_from_each : (P : A → Type 0) (xs : List A) → ((k : ℕ) (x : A) → slice_get xs k ≡ Some x → P x) → All P xs
  all_from_each P xs each k x within = each k (get_or xs k x) (slice_get-get_or xs k x within)

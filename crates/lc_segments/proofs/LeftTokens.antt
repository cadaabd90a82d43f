-- Of a segment: the tokens that a cluster leaves.
use Rattle.std.proofs.Common.{◌≡◌, ℕ, List, [], Option, Some, None, refl, sym, ap, subst, ◌∙◌}
use Rattle.lc_disk.specs.declared.area.Area.{Ghosts}
use Rattle.lc_token.specs.declared.token.Token.{Token}
use Rattle.lc_rest.specs.declared.holder.Holder.TheVariants.{Here}
use Rattle.std.proofs.lemmas.Option.{none-some, same_Some as some_same}
use Rattle.lc_segments.specs.LeftBy.{IsServingArea, IsSettledPart, token_here}
use Rattle.lc_segments.specs.SegSide.{FitsArea}
use Rattle.lc_segments.specs.declared.page_area.PageArea.{PageArea}
use Rattle.lc_segments.specs.declared.page_area.PageArea.TheVariants.{Elsewhere, Serves, Failed}

module _ {D : Type 0} (a : Ghosts D) where
  -- a token that stands at a node, and the area of the pages, are settled
  pub settled_here : (since : ℕ) (pages : PageArea D) (standing : Option Token) (bytes : List ℕ) (area : D) (token : Token) (node : ℕ) → FitsArea a since pages standing bytes → pages ≡ Serves area → standing ≡ Some token
      → IsSettledPart a (record { token = token; area = area; holder = Here node })
  settled_here since pages standing bytes area token node fits serves stands =
      let its = subst (λ (z : PageArea D × Option Token). FitsArea a since z.0 z.1 bytes) (λ k. (serves k, stands k)) fits in
      record { settled = λ page within. (its.each page within).settled_in; free = its.free }

  -- an area that is here serves
  pub served : (pages : PageArea D) (here : Option D) (area : D) → IsServingArea pages here → here ≡ Some area → pages ≡ Serves area
  served Elsewhere here area its is = absurd (none-some area (sym its ∙ is))
  served (Serves other) here area its is = ap Serves (some_same other area (sym its ∙ is))
  served (Failed other) here area its is = absurd its

  -- and where none is, no token stands
  pub none_served : (pages : PageArea D) (here : Option D) (node : ℕ) (token : Option Token) → IsServingArea pages here → here ≡ None → token_here node pages token ≡ []
  none_served Elsewhere here node token its is = refl
  none_served (Serves area) here node token its is = absurd (none-some area (sym is ∙ its))
  none_served (Failed area) here node token its is = absurd its

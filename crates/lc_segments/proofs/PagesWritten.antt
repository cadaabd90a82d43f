-- Of a segment: what the pages of held segments are after their writes.
use Rattle.std.proofs.Common.{◌≡◌, ℕ, List, Some, None, length, refl, ap, subst, ◌∙◌}
use Rattle.std.specs.Prelude.{Option, IsSomeAnd}
use Rattle.std.specs.Option.{ForSome}
use Rattle.lc_disk.specs.declared.area.Area.{Ghosts}
use Rattle.lc_token.specs.Standing.{Standing}
use Rattle.lc_token.specs.declared.token.Token.{Token}
use Rattle.lc_segments.specs.Pages.{AreWritten, FitsToken}
use Rattle.lc_segments.specs.SegSide.{FitsArea}
use Rattle.lc_segments.specs.declared.page_area.PageArea.{PageArea}
use Rattle.lc_segments.specs.declared.page_area.PageArea.TheVariants.{Serves}

-- where an area serves the token is here, and the area stands as it says
pub here_serves : {D : Type 0} (a : Ghosts D) (since : ℕ) (pages : PageArea D) (area : D) (token : Option Token) (bytes : List ℕ) → pages ≡ Serves area → FitsArea a since pages token bytes
    → (t : Token) × (token ≡ Some t) × FitsToken a since area t bytes
here_serves a since pages area None bytes is fits = absurd (subst (λ p. FitsArea a since p None bytes) is fits)
here_serves a since pages area (Some t) bytes is fits = (t, refl, subst (λ p. FitsArea a since p (Some t) bytes) is fits)

pub serves : {D : Type 0} (a : Ghosts D) (since : ℕ) (area : D) (token : Option Token) (bytes : List ℕ) → IsSomeAnd token (λ t. FitsToken a since area t bytes) → FitsArea a since (Serves area) token bytes
serves a since area None bytes is = absurd is
serves a since area (Some t) bytes is = is

-- the token after its pages' writes
pub written_token : (old new : Option Token) (t : Token) → old ≡ Some t → ForSome old (λ x. IsSomeAnd new (AreWritten x)) → (u : Token) × (new ≡ Some u) × AreWritten t u
written_token old None t is written = absurd (written t is)
written_token old (Some u) t is written = (u, refl, written t is)

pub same_seq : (old new : Option Token) (t x : Token) (n : ℕ) → old ≡ Some t → ForSome old (λ y. IsSomeAnd new (AreWritten y)) → ForSome old (λ y. y.seq ≡ n) → new ≡ Some x → x.seq ≡ n
same_seq old new t x n is written seq new_is = (subst (λ o. IsSomeAnd o (AreWritten t)) new_is (written t is)).same_seq ∙ seq t is

pub same_count : (old new : Option Token) (t x : Token) → old ≡ Some t → ForSome old (λ y. IsSomeAnd new (AreWritten y)) → new ≡ Some x → length x.pages ≡ length t.pages
same_count old new t x is written new_is = (subst (λ o. IsSomeAnd o (AreWritten t)) new_is (written t is)).same_count

pub standing_is : (s : Standing) (segment : ℕ) (u : Token) → s.segment ≡ segment → s.token ≡ Some u → s ≡ record { segment = segment; token = Some u }
standing_is s segment u same is = ap (λ (n : ℕ). record { segment = n; token = s.token }) same ∙ ap (λ (o : Option Token). record { segment = segment; token = o }) is

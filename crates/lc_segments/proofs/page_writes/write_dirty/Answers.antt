use Rattle.std.proofs.Common.{◌≡◌, ℕ, Option, Some, subst, sym, ◌∙◌}
use Rattle.std.specs.Prelude.{IsSomeAnd}
use Rattle.lc_token.specs.declared.token.Token.{Token}
use Rattle.std.proofs.lemmas.Option.{same_Some as some_same}
use Rattle.lc_segments.specs.Pages.{AreWritten, FitsToken, HaveBytes}
use Rattle.lc_segments.proofs.Noted.{with_token, written_fits}
use Rattle.lc_segments.proofs.page_writes.write_dirty.Goals as goal

pub returns-clause-wrote : goal.returns-clause-wrote
returns-clause-wrote g c =
    let a = g.D.Area in
    let token = c.in-Some.token.now in
    let bytes = c.args.bytes.now in
    let area = c.write_pages-written.new.area in
    let at : c.args.place.now.token ≡ Some token = sym c.in-Some.ensures.token in
    let fits : (since : ℕ) × FitsToken a since c.args.area.now token bytes = subst (λ (o : Option Token). IsSomeAnd o (λ t. (since : ℕ) × FitsToken a since c.args.area.now t bytes)) at c.requires.fits in
    λ t is. subst (λ (x : Token). HaveBytes a area x bytes) (some_same token t (sym at ∙ is)) (λ page within. ((c.in_ok-written.ensures.over fits.0 fits.1).each page within).wrote)

pub returns-clause-fits : goal.returns-clause-fits
returns-clause-fits g c =
    let a = g.D.Area in
    let token = c.in-Some.token.now in
    let bytes = c.args.bytes.now in
    let area = c.write_pages-written.new.area in
    let at : c.args.place.now.token ≡ Some token = sym c.in-Some.ensures.token in
    λ since some.
    let fits : FitsToken a since c.args.area.now token bytes = subst (λ (o : Option Token). IsSomeAnd o (λ t. FitsToken a since c.args.area.now t bytes)) at some in
    with_token c.note_written.new.place.token (AreWritten token) (λ new. FitsToken a since area new bytes)
    (λ new is. written_fits a since c.args.area.now area token new bytes fits (c.in_ok-written.ensures.over since fits) is) (c.note_written.ensures.written token at)

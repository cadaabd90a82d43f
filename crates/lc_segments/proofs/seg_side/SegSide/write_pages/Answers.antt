use Rattle.std.proofs.Common.{rules, ◌≡◌, ℕ, List, [], Some, length, refl, sym, ap, subst, ◌∙◌, inr, arith}
use Rattle.std.specs.Prelude.{IsSomeAnd, Option}
use Rattle.lc_record.specs.declared.part.Part.{Part}
use Rattle.lc_token.specs.declared.token.Token.{Token}
use Rattle.lc_segments.specs.Pages.{FitsToken, HaveBytes}
use Rattle.lc_applied.specs.AppliedParts.{laid_parts}
use Rattle.lc_segments.specs.declared.page_area.PageArea.TheVariants.{Serves}
use Rattle.lc_segments.proofs.Laying.{length-laid_parts}
use Rattle.lc_segments.proofs.PagesWritten.{here_serves, serves, written_token, same_count, same_seq, standing_is}
use Rattle.lc_segments.proofs.seg_side.SegSide.write_pages.Goals as goal

pub write_dirty-requires-clause-room : goal.write_dirty-requires-clause-room
write_dirty-requires-clause-room g c = let inside = c.self.inside in
    let same : inside.pages ≡ Serves c.in-Serves.area = search rules in
    let here = here_serves g.D.Area inside.since inside.pages c.in-Serves.area inside.token.token (laid_parts inside.applied.parts inside.base.bytes.items) same c.self.invariant.fits_area in
    let base : inside.base.bytes.items ≡ laid_parts c.args.self.now.applied c.args.self.now.base = search rules in
    λ x is.
    let fits : FitsToken g.D.Area inside.since c.in-Serves.area x (laid_parts inside.applied.parts inside.base.bytes.items) = search rules in
    let long = fits.long in let one = length-laid_parts inside.applied.parts inside.base.bytes.items in let two = length-laid_parts c.args.self.now.applied c.args.self.now.base in
    let three = ap (λ (l : List ℕ). length l) base in let room = c.requires.room in omega arith

pub invariant_of-self-in-Ok : goal.invariant_of-self-in-Ok
invariant_of-self-in-Ok g c = let inside = c.self.inside in let inv = c.self.invariant in
    let same : inside.pages ≡ Serves c.in-Serves.area = search rules in
    let here = here_serves g.D.Area inside.since inside.pages c.in-Serves.area inside.token.token (laid_parts inside.applied.parts inside.base.bytes.items) same inv.fits_area in
    let none : inside.applied.parts ≡ [] = search rules in
    let bytes : c.bytes.result.now ≡ laid_parts inside.applied.parts inside.base.bytes.items = c.bytes.ensures ∙ sym (ap (λ (l : List Part). laid_parts l inside.base.bytes.items) none) in
    let before : IsSomeAnd inside.token.token (λ t. FitsToken g.D.Area inside.since c.in-Serves.area t c.bytes.result.now) =
    subst (λ (o : Option Token). IsSomeAnd o (λ t. FitsToken g.D.Area inside.since c.in-Serves.area t c.bytes.result.now)) (sym here.1)
    (subst (λ (l : List ℕ). FitsToken g.D.Area inside.since c.in-Serves.area here.0 l) (sym bytes) here.2) in record {
      shows = inv.shows;
      of_token = c.in-Ok.ensures.segment ∙ inv.of_token;
      of_hold_back = inv.of_hold_back;
      first = inv.first;
      last = inv.last;
      all_stored = inv.all_stored;
      short = inv.short;
      all_applied = λ x is. same_seq inside.token.token c.write_dirty.new.place.token here.0 x inside.hold_back.applied here.1 c.in-Ok.ensures.written inv.all_applied is;
      few_pages = λ x is. let was = inv.few_pages here.0 here.1 in
          let same = same_count inside.token.token c.write_dirty.new.place.token here.0 x here.1 c.in-Ok.ensures.written is in omega arith;
      fits_area = serves g.D.Area inside.since c.write_dirty.new.area c.write_dirty.new.place.token (laid_parts inside.applied.parts inside.base.bytes.items)
          (subst (λ (l : List ℕ). IsSomeAnd c.write_dirty.new.place.token (λ t. FitsToken g.D.Area inside.since c.write_dirty.new.area t l)) bytes (c.in-Ok.ensures.fits inside.since before));
    }

pub returns-in-Ok-clause-written : goal.returns-in-Ok-clause-written
returns-in-Ok-clause-written g c = let inside = c.self.inside in let inv = c.self.invariant in
    let same : inside.pages ≡ Serves c.in-Serves.area = search rules in
    let here = here_serves g.D.Area inside.since inside.pages c.in-Serves.area inside.token.token (laid_parts inside.applied.parts inside.base.bytes.items) same inv.fits_area in
    let behind = written_token inside.token.token c.write_dirty.new.place.token here.0 here.1 c.in-Ok.ensures.written in
    let old_pages : c.args.self.now.pages ≡ Serves c.in-Serves.area = search rules in
    let old_token : c.args.self.now.standing.token ≡ Some here.0 = search rules in
    let segment : c.write_dirty.new.place.segment ≡ c.args.self.now.standing.segment = search rules in
    let standing = standing_is c.write_dirty.new.place c.args.self.now.standing.segment behind.0 segment behind.1 in
    let base : c.bytes.result.now ≡ inside.base.bytes.items = c.bytes.ensures in
    let wrote : HaveBytes g.D.Area c.write_dirty.new.area here.0 c.bytes.result.now = c.in-Ok.ensures.wrote here.0 here.1 in
    (search rules, inr (c.in-Serves.area, c.write_dirty.new.area, here.0, behind.0, old_pages, refl, old_token, standing, behind.2, subst (HaveBytes g.D.Area c.write_dirty.new.area here.0) base wrote))

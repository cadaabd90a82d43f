use Rattle.std.proofs.Common.{◌≡◌, ◌∙◌, ◌<◌, ◌+◌, ℕ, sym, subst, true, get_or, Some, inl}
use Rattle.std.specs.Prelude.{slice_get}
use Rattle.std.proofs.lemmas.Option.{slice_get-get_or, none-some, same_Some as one_item}
use Rattle.lc_page.specs.Page.{Page}
use Rattle.lc_page.specs.PageVector.{entry_at, entry_text}
use Rattle.lc_page.specs.Writing.{draft_of, IsUnderWay}
use Rattle.lc_page.specs.declared.writing.Writing.{Writing}
use Rattle.lc_record.proofs.ListLemmas.{IfOk_both as both-ok}
use Rattle.lc_recover.proofs.AreaLemmas.{one-call, set-get}
use Rattle.lc_recover.proofs.Writes.{Next, next-of, with-current, reads-kept, write-begins, rests-of, current-fits, segment-room, call-shows}
use Rattle.lc_recover.specs.RecoveryPhase.{RestsAt, IsCurrent, IsDraft}
use Rattle.lc_recover.proofs.page_steps.begin_next.Given.{Over}
use Rattle.lc_recover.proofs.page_steps.begin_next.Goals as goal

pub begin_page-requires-clause-room : goal.begin_page-requires-clause-room
begin_page-requires-clause-room g c =
    let n = next-of c.args.geometry.now c.args.writes.now c.requires.fits.1 c.requires.left in
    let old = get_or c.args.areas.now c.args.place c.index-areas-place.result in
    let was : slice_get c.args.areas.now c.args.place ≡ Some old = slice_get-get_or c.args.areas.now c.args.place c.index-areas-place.result c.requires.within in
    segment-room g.D.Area c.args.geometry.now c.args.writes.now n.its c.args.place old (c.requires.fits.0.each c.args.place old was) n.is.segment n.known (c.requires.here n.its n.pages n.is)

module _ (g : Over) (c : goal.After-begin_page g) where
  abbrev old : g.row.D.Denot
  old = get_or c.args.areas.now c.args.place c.index-areas-place.result

  was : slice_get c.args.areas.now c.args.place ≡ Some old
  was = slice_get-get_or c.args.areas.now c.args.place c.index-areas-place.result c.requires.within

  next : Next c.args.geometry.now c.args.writes.now
  next = next-of c.args.geometry.now c.args.writes.now c.requires.fits.1 c.requires.left

  none : (segment page : ℕ) (write : Writing) → IsCurrent c.args.writes.now segment page write → ⊥
  none segment page write is = none-some write (sym c.requires.none ∙ is.0)

  here : c.args.place + 1 ≡ c.args.geometry.now.nodes + next.its.segment
  here = c.requires.here next.its next.pages next.is

  rests : (page : ℕ) → page < c.args.geometry.now.pages → g.D.Area.honest old ≡ true → RestsAt g.D.Area next.pages old page
  rests page within alive =
      rests-of g.D.Area c.args.geometry.now c.args.writes.now c.args.areas.now c.args.place old c.begin_page.new.area was c.requires.fits.0 c.begin_page.ensures.device.honest c.begin_page.ensures.device.same_length c.begin_page.ensures.bytes
      next.its next.pages next.is here page within alive (none next.its.segment page)

pub returns-clause-areas : goal.returns-clause-areas
returns-clause-areas g c = write-begins g.D.Area c.args.geometry.now c.args.writes.now c.args.areas.now c.args.place (old g c) c.begin_page.new.area (was g c) c.requires.fits.0 c.begin_page.ensures.device.honest c.begin_page.ensures.device.same_length c.begin_page.ensures.bytes

pub returns-clause-call : goal.returns-clause-call
returns-clause-call g c = one-call g.D.Area c.args.geometry.now c.args.areas.now c.args.place (old g c) c.begin_page.new.area (was g c) _ c.begin_page.ensures.device

pub returns-clause-fits : goal.returns-clause-fits
returns-clause-fits g c =
    both-ok c.begin_page.result c.begin_page.ensures.drafted c.begin_page.ensures.begun (λ write drafted begun.
    let n = next g c in
    let draft = drafted c.requires.fits.1 n.its n.pages n.is in (
      current-fits g.D.Area c.args.geometry.now c.args.writes.now c.args.areas.now c.args.place (old g c) c.begin_page.new.area (was g c) c.requires.fits.0 c.begin_page.ensures.device.honest c.begin_page.ensures.device.same_length c.begin_page.ensures.bytes
          n.its n.pages n.is (here g c) write draft.page
          (λ page differ. c.begin_page.ensures.others n.its n.pages n.is page differ)
          (λ page within differ alive. rests g c page within alive)
          (λ alive.
          let before : g.D.Area.honest (old g c) ≡ true = sym c.begin_page.ensures.device.honest ∙ alive in
          let at : RestsAt g.D.Area n.pages (old g c) n.its.page = rests g c n.its.page n.within before in
          subst (λ (p : Page). IsUnderWay g.D.Area c.begin_page.new.area write (entry_text (entry_at n.pages.texts n.its.page)) p)
          (reads-kept g.D.Area n.pages (old g c) n.its.page ((c.requires.fits.0.each c.args.place (old g c) (was g c)).bytes before) at)
          (begun n.its n.pages n.is (λ honest. at.settled))),
      with-current c.args.geometry.now c.args.writes.now c.requires.fits.1 (Some write)
          (λ other is. (n.its, n.is.change, subst (λ (x : Writing). IsDraft c.requires.fits.1.content c.requires.fits.1.numbers n.its (draft_of x)) (one_item write other is) draft)),
    ))

pub returns-clause-shows : goal.returns-clause-shows
returns-clause-shows g c = λ i alive.
    let n = next g c in
    let before : g.D.Area.honest (old g c) ≡ true = sym c.begin_page.ensures.device.honest ∙ alive c.args.place c.begin_page.new.area (set-get c.args.areas.now c.args.place c.begin_page.new.area (old g c) (was g c)) in
    let at : RestsAt g.D.Area n.pages (old g c) n.its.page = rests g c n.its.page n.within before in
    call-shows g.D.Area c.args.geometry.now c.args.writes.now c.args.areas.now c.args.place (old g c) c.begin_page.new.area (was g c) c.requires.fits.0 c.begin_page.ensures.device.honest c.begin_page.ensures.device.same_length c.begin_page.ensures.bytes
    i n.its n.pages n.is (here g c) alive
    (λ page differ. c.begin_page.ensures.others n.its n.pages n.is page differ)
    (λ page within differ. rests g c page within before)
    (λ image of. inl ((c.begin_page.ensures.page n.its n.pages n.is (λ honest. at.settled) (c.begin_page.ensures.device.honest ∙ before)).images image of
    ∙ reads-kept g.D.Area n.pages (old g c) n.its.page ((c.requires.fits.0.each c.args.place (old g c) (was g c)).bytes before) at))

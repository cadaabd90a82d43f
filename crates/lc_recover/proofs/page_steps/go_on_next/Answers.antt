use Rattle.lc_recover.proofs.Keeping.{were-honest}
use Rattle.lc_recover.proofs.Renewing.{renewed-kept}
use Rattle.lc_recover.proofs.Showing.{writing-merges}
use Rattle.lc_recover.specs.Pages.{kept_pages}
use Rattle.lc_recover.specs.declared.segment_pages.SegmentPages.{SegmentPages}
use Rattle.std.proofs.Common.{◌≡◌, ◌∙◌, ◌+◌, ◌-◌, ◌*◌, ℕ, List, refl, sym, ap, subst, arith, inr, Bool, true, map, length, get_or, Option, Some, None}
use Rattle.std.specs.Prelude.{slice_get, slice_set}
use Rattle.std.proofs.lemmas.Option.{slice_get-get_or, same_Some as one_item}
use Rattle.lc_disk.specs.Area.{overlaid}
use Rattle.lc_log.specs.OneCall.{IsOneCall}
use Rattle.lc_page.specs.PageVector.{entry_at, entry_text, settled}
use Rattle.lc_page.specs.Writing.{draft_of, calls_of, GoesOn, IsNextOf}
use Rattle.lc_page.specs.declared.draft.Draft.{Draft}
use Rattle.lc_page.specs.declared.writing.Writing.{Writing}
use Rattle.lc_recover.proofs.AreaLemmas.{one-call, not_ok}
use Rattle.lc_recover.proofs.Begins.{long_page}
use Rattle.lc_recover.proofs.Writes.{Next, next-of, with-current, with-none, as_kept, write-begins, current-of, goes-on-fits, over-fits, none-of, some-of, same-draft, segment-room, goes-on-shows}
use Rattle.lc_recover.specs.RecoveryPhase.{IsCurrent, IsDraft}
use Rattle.lc_recover.specs.declared.redo_range.RedoRange.{RedoRange}
use Rattle.lc_recover.specs.declared.page_writes.PageWrites.{PageWrites}
use Rattle.lc_recover.proofs.page_steps.go_on_next.Given.{Over}
use Rattle.lc_recover.proofs.page_steps.go_on_next.Goals as goal

module _ (g : Over) (c : goal.After-index-areas-place g) where
  abbrev w : PageWrites
  w = record c.args.writes.now { current = Some c.args.write }

  abbrev old : g.row.D.Denot
  old = get_or c.args.areas.now c.args.place c.index-areas-place.result

  was : slice_get c.args.areas.now c.args.place ≡ Some old
  was = slice_get-get_or c.args.areas.now c.args.place c.index-areas-place.result c.requires.within

  next : Next c.args.geometry.now w
  next = next-of c.args.geometry.now w c.requires.fits.1 c.requires.left

  here : c.args.place + 1 ≡ c.args.geometry.now.nodes + next.its.segment
  here = c.requires.here next.its next.pages (record { change = next.is.change; segment = next.is.segment; kept = next.is.kept })

  draft : IsDraft c.requires.fits.1.content c.requires.fits.1.numbers next.its (draft_of c.args.write)
  draft =
      let d = c.requires.fits.1.drafts c.args.write refl in
      subst (λ (x : RedoRange). IsDraft c.requires.fits.1.content c.requires.fits.1.numbers x (draft_of c.args.write)) (one_item d.0 next.its (sym d.1 ∙ next.is.change)) d.2

  current : IsCurrent w next.its.segment next.its.page c.args.write
  current = (refl, (next.its, next.is.change, refl), draft.page)

pub go_on-requires : goal.go_on-requires
go_on-requires g c =
    let n = next g c in
    let room = segment-room g.D.Area c.args.geometry.now (w g c) n.its c.args.place (old g c) (c.requires.fits.0.each c.args.place (old g c) (was g c)) n.is.segment n.known (here g c) in
    omega (arith, room, n.within, (draft g c).page)

pub returns-in_err-writes-clause-areas : goal.returns-in_err-writes-clause-areas
returns-in_err-writes-clause-areas g c =
    let old = get_or c.args.areas.now c.args.place c.index-areas-place.result in
    let was : slice_get c.args.areas.now c.args.place ≡ Some old = slice_get-get_or c.args.areas.now c.args.place c.index-areas-place.result c.requires.within in
    write-begins g.D.Area c.args.geometry.now (record c.args.writes.now { current = Some c.args.write }) c.args.areas.now c.args.place old c.go_on.new.area was c.requires.fits.0 c.go_on.ensures.device.honest c.go_on.ensures.device.same_length c.go_on.ensures.bytes

pub returns-then-is_none-clause-areas : goal.returns-then-is_none-clause-areas
returns-then-is_none-clause-areas g c =
    let old = get_or c.args.areas.now c.args.place c.index-areas-place.result in
    let was : slice_get c.args.areas.now c.args.place ≡ Some old = slice_get-get_or c.args.areas.now c.args.place c.index-areas-place.result c.requires.within in
    write-begins g.D.Area c.args.geometry.now (record c.args.writes.now { current = Some c.args.write }) c.args.areas.now c.args.place old c.go_on.new.area was c.requires.fits.0 c.go_on.ensures.device.honest c.go_on.ensures.device.same_length c.go_on.ensures.bytes

pub returns-then-is_none-clause-call : goal.returns-then-is_none-clause-call
returns-then-is_none-clause-call g c =
    let old = get_or c.args.areas.now c.args.place c.index-areas-place.result in
    let was : slice_get c.args.areas.now c.args.place ≡ Some old = slice_get-get_or c.args.areas.now c.args.place c.index-areas-place.result c.requires.within in
    one-call g.D.Area c.args.geometry.now c.args.areas.now c.args.place old c.go_on.new.area was true c.in_ok-writes.ensures.device

pub returns-else-is_none-clause-areas : goal.returns-else-is_none-clause-areas
returns-else-is_none-clause-areas g c =
    let old = get_or c.args.areas.now c.args.place c.index-areas-place.result in
    let was : slice_get c.args.areas.now c.args.place ≡ Some old = slice_get-get_or c.args.areas.now c.args.place c.index-areas-place.result c.requires.within in
    write-begins g.D.Area c.args.geometry.now (record c.args.writes.now { current = Some c.args.write }) c.args.areas.now c.args.place old c.go_on.new.area was c.requires.fits.0 c.go_on.ensures.device.honest c.go_on.ensures.device.same_length c.go_on.ensures.bytes

pub returns-else-is_none-clause-call : goal.returns-else-is_none-clause-call
returns-else-is_none-clause-call g c =
    let old = get_or c.args.areas.now c.args.place c.index-areas-place.result in
    let was : slice_get c.args.areas.now c.args.place ≡ Some old = slice_get-get_or c.args.areas.now c.args.place c.index-areas-place.result c.requires.within in
    one-call g.D.Area c.args.geometry.now c.args.areas.now c.args.place old c.go_on.new.area was true c.in_ok-writes.ensures.device

pub returns-in_err-writes-clause-call : goal.returns-in_err-writes-clause-call
returns-in_err-writes-clause-call g c =
    let old = get_or c.args.areas.now c.args.place c.index-areas-place.result in
    let was : slice_get c.args.areas.now c.args.place ≡ Some old = slice_get-get_or c.args.areas.now c.args.place c.index-areas-place.result c.requires.within in
    one-call g.D.Area c.args.geometry.now c.args.areas.now c.args.place old c.go_on.new.area was _
    (subst (λ (b : Bool). IsOneCall g.D.Area b old c.go_on.new.area) (not_ok _ c.from_residual.ensures.0) c.in_err-writes.ensures.device)

pub settle_page-requires-clause-drafted : goal.settle_page-requires-clause-drafted
settle_page-requires-clause-drafted g c =
    let w : PageWrites = record c.args.writes.now { current = Some c.args.write } in
    let i = c.requires.fits.1 in
    let d = i.drafts c.args.write refl in
    let none = none-of c.in_ok-writes.field-0 c.if-is_none.ensures in
    with-none c.args.geometry.now w i c.in_ok-writes.field-0 none c.draft.result.now (λ its is.
    subst (λ (x : Draft). IsDraft i.content i.numbers its x) (sym c.draft.ensures)
    (subst (λ (x : RedoRange). IsDraft i.content i.numbers x (draft_of c.args.write)) (one_item d.0 its (sym d.1 ∙ is)) d.2))

pub returns-else-is_none-clause-fits : goal.returns-else-is_none-clause-fits
returns-else-is_none-clause-fits g c =
    let w : PageWrites = record c.args.writes.now { current = Some c.args.write } in
    let i = c.requires.fits.1 in
    let old = get_or c.args.areas.now c.args.place c.index-areas-place.result in
    let was : slice_get c.args.areas.now c.args.place ≡ Some old = slice_get-get_or c.args.areas.now c.args.place c.index-areas-place.result c.requires.within in
    let n = next-of c.args.geometry.now w i c.requires.left in
    let here : c.args.place + 1 ≡ c.args.geometry.now.nodes + n.its.segment = c.requires.here n.its n.pages (record { change = n.is.change; segment = n.is.segment; kept = n.is.kept }) in
    let d = i.drafts c.args.write refl in
    let draft : IsDraft i.content i.numbers n.its (draft_of c.args.write) =
    subst (λ (x : RedoRange). IsDraft i.content i.numbers x (draft_of c.args.write)) (one_item d.0 n.its (sym d.1 ∙ n.is.change)) d.2 in
    let current : IsCurrent w n.its.segment n.its.page c.args.write = (refl, (n.its, n.is.change, refl), draft.page) in (
      goes-on-fits g.D.Area c.args.geometry.now w c.args.areas.now c.args.place old c.go_on.new.area was c.requires.fits.0 c.go_on.ensures.device.honest c.go_on.ensures.device.same_length c.go_on.ensures.bytes
          n.its n.pages n.is here c.args.write current
          (λ page differ. c.go_on.ensures.others page (λ same. differ (same ∙ draft.page)))
          c.in_ok-writes.field-0 c.in_ok-writes.ensures.next c.in_ok-writes.ensures.goes_on (some-of c.in_ok-writes.field-0 c.if-is_none.ensures),
      with-current c.args.geometry.now w i c.in_ok-writes.field-0
          (λ other is. (n.its, n.is.change, subst (λ (x : Draft). IsDraft i.content i.numbers n.its x) (sym (same-draft c.args.write other c.in_ok-writes.field-0 c.in_ok-writes.ensures.next is)) draft)),
    )

pub returns-then-is_none-clause-fits : goal.returns-then-is_none-clause-fits
returns-then-is_none-clause-fits g c =
    let w : PageWrites = record c.args.writes.now { current = Some c.args.write } in
    let i = c.requires.fits.1 in
    let old = get_or c.args.areas.now c.args.place c.index-areas-place.result in
    let was : slice_get c.args.areas.now c.args.place ≡ Some old = slice_get-get_or c.args.areas.now c.args.place c.index-areas-place.result c.requires.within in
    let n = next-of c.args.geometry.now w i c.requires.left in
    let here : c.args.place + 1 ≡ c.args.geometry.now.nodes + n.its.segment = c.requires.here n.its n.pages (record { change = n.is.change; segment = n.is.segment; kept = n.is.kept }) in
    let d = i.drafts c.args.write refl in
    let draft : IsDraft i.content i.numbers n.its (draft_of c.args.write) =
    subst (λ (x : RedoRange). IsDraft i.content i.numbers x (draft_of c.args.write)) (one_item d.0 n.its (sym d.1 ∙ n.is.change)) d.2 in
    let current : IsCurrent w n.its.segment n.its.page c.args.write = (refl, (n.its, n.is.change, refl), draft.page) in
    let none : c.in_ok-writes.field-0 ≡ None = none-of c.in_ok-writes.field-0 c.if-is_none.ensures in
    let its = c.settle_page.ensures.settled.segments n.its n.pages (record { change = n.is.change; segment = n.is.segment; kept = n.is.kept }) in
    let text = entry_text (entry_at n.pages.texts n.its.page) in
    let ends : calls_of c.args.write ≡ 5 = subst (λ (o : Option Writing). IsNextOf c.args.write o) none c.in_ok-writes.ensures.next in (
      over-fits g.D.Area c.args.geometry.now w c.args.areas.now c.args.place old c.go_on.new.area was c.requires.fits.0 c.go_on.ensures.device.honest c.go_on.ensures.device.same_length c.go_on.ensures.bytes
          n.its n.pages n.is here c.args.write current its.0
          (subst (λ (x : Draft). its.0.texts ≡ slice_set n.pages.texts x.page (settled (entry_at n.pages.texts x.page) x.seq)) c.draft.ensures its.2)
          (subst (λ (x : Draft). its.0.bytes.items ≡ overlaid n.pages.bytes.items (x.page * 256) x.bytes) c.draft.ensures its.3)
          (ap (λ (l : List ℕ). length l) draft.bytes ∙ long_page c.args.geometry.now w i n.its n.is.change)
          (i.pages.entries (n.its.segment - 1) n.pages n.is.kept)
          (i.pages.bytes (n.its.segment - 1) n.pages n.is.kept)
          n.within
          c.settle_page.new.writes (ap (λ logs. logs.items) c.settle_page.ensures.settled.logs) its.1 c.settle_page.ensures.settled.current
          (λ page differ. c.go_on.ensures.others page (λ same. differ (same ∙ draft.page)))
          (λ alive. c.in_ok-writes.ensures.clean ends alive)
          (λ alive.
          subst (λ (o : Option Writing). GoesOn g.D.Area c.go_on.new.area (draft_of c.args.write) text (as_kept n.pages n.its.page) o) none
          (c.in_ok-writes.ensures.goes_on text (as_kept n.pages n.its.page)
          (current-of g.D.Area c.args.geometry.now w c.args.areas.now c.args.place old c.go_on.new.area was c.requires.fits.0 c.go_on.ensures.device.honest c.go_on.ensures.device.same_length c.go_on.ensures.bytes
          n.its n.pages n.is here n.its.page c.args.write (sym c.go_on.ensures.device.honest ∙ alive) current))),
      c.settle_page.ensures.sound,
    )

pub returns-in_err-writes-clause-shows : goal.returns-in_err-writes-clause-shows
returns-in_err-writes-clause-shows g c = λ i alive.
    let w : PageWrites = record c.args.writes.now { current = Some c.args.write } in
    let old = get_or c.args.areas.now c.args.place c.index-areas-place.result in
    let was : slice_get c.args.areas.now c.args.place ≡ Some old = slice_get-get_or c.args.areas.now c.args.place c.index-areas-place.result c.requires.within in
    let n = next-of c.args.geometry.now w i c.requires.left in
    goes-on-shows g.D.Area c.args.geometry.now w c.args.areas.now c.args.place old c.go_on.new.area was c.requires.fits.0 c.go_on.ensures.device.honest c.go_on.ensures.device.same_length c.go_on.ensures.bytes
    i n.its n.pages n.is (c.requires.here n.its n.pages (record { change = n.is.change; segment = n.is.segment; kept = n.is.kept })) alive
    c.args.write refl c.go_on.ensures.others c.go_on.ensures.page

pub returns-then-is_none-clause-shows : goal.returns-then-is_none-clause-shows
returns-then-is_none-clause-shows g c = λ i alive.
    let w : PageWrites = record c.args.writes.now { current = Some c.args.write } in
    let old = get_or c.args.areas.now c.args.place c.index-areas-place.result in
    let was : slice_get c.args.areas.now c.args.place ≡ Some old = slice_get-get_or c.args.areas.now c.args.place c.index-areas-place.result c.requires.within in
    let n = next-of c.args.geometry.now w i c.requires.left in
    goes-on-shows g.D.Area c.args.geometry.now w c.args.areas.now c.args.place old c.go_on.new.area was c.requires.fits.0 c.go_on.ensures.device.honest c.go_on.ensures.device.same_length c.go_on.ensures.bytes
    i n.its n.pages n.is (c.requires.here n.its n.pages (record { change = n.is.change; segment = n.is.segment; kept = n.is.kept })) alive
    c.args.write refl c.go_on.ensures.others c.go_on.ensures.page

pub returns-else-is_none-clause-shows : goal.returns-else-is_none-clause-shows
returns-else-is_none-clause-shows g c = λ i alive.
    let w : PageWrites = record c.args.writes.now { current = Some c.args.write } in
    let old = get_or c.args.areas.now c.args.place c.index-areas-place.result in
    let was : slice_get c.args.areas.now c.args.place ≡ Some old = slice_get-get_or c.args.areas.now c.args.place c.index-areas-place.result c.requires.within in
    let n = next-of c.args.geometry.now w i c.requires.left in
    goes-on-shows g.D.Area c.args.geometry.now w c.args.areas.now c.args.place old c.go_on.new.area was c.requires.fits.0 c.go_on.ensures.device.honest c.go_on.ensures.device.same_length c.go_on.ensures.bytes
    i n.its n.pages n.is (c.requires.here n.its n.pages (record { change = n.is.change; segment = n.is.segment; kept = n.is.kept })) alive
    c.args.write refl c.go_on.ensures.others c.go_on.ensures.page

pub returns-then-is_none-clause-keeps : goal.returns-then-is_none-clause-keeps
returns-then-is_none-clause-keeps g c honest =
    let w : PageWrites = record c.args.writes.now { current = Some c.args.write } in
    let i = c.requires.fits.1 in
    let n = next-of c.args.geometry.now w i c.requires.left in
    let d = i.drafts c.args.write refl in
    let draft : IsDraft i.content i.numbers n.its (draft_of c.args.write) =
    subst (λ (x : RedoRange). IsDraft i.content i.numbers x (draft_of c.args.write)) (one_item d.0 n.its (sym d.1 ∙ n.is.change)) d.2 in
    let its = c.settle_page.ensures.settled.segments n.its n.pages (record { change = n.is.change; segment = n.is.segment; kept = n.is.kept }) in
    let entries = i.pages.entries (n.its.segment - 1) n.pages n.is.kept in
    let bytes = i.pages.bytes (n.its.segment - 1) n.pages n.is.kept in
    inr (record {
      segment = n.its.segment;
      page = n.its.page;
      was_next = c.settle_page.ensures.left n.its n.is.change;
      content = i.content;
      numbers = i.numbers;
      merges = writing-merges g.D.Area c.args.geometry.now w c.args.areas.now c.requires.fits.0
          (were-honest g.D.Area c.args.geometry.now c.args.areas.now (slice_set c.args.areas.now c.args.place c.go_on.new.area) true c.args.place (returns-then-is_none-clause-call g c) honest) i;
      kept = ap (λ (l : List SegmentPages). map kept_pages l) its.1
          ∙ renewed-kept c.args.writes.now.kept.segments.items i.content i.numbers n.its n.pages its.0 (draft_of c.args.write) n.is.segment n.is.kept draft
          (omega (arith, n.within, entries))
          (ap (λ (l : List ℕ). length l) draft.bytes ∙ long_page c.args.geometry.now w i n.its n.is.change)
          (omega (arith, n.within, bytes))
          (subst (λ (x : Draft). its.0.texts ≡ slice_set n.pages.texts x.page (settled (entry_at n.pages.texts x.page) x.seq)) c.draft.ensures its.2)
          (subst (λ (x : Draft). its.0.bytes.items ≡ overlaid n.pages.bytes.items (x.page * 256) x.bytes) c.draft.ensures its.3);
    })

use Rattle.std.proofs.Common.{◌≡◌, ◌<◌, ◌≤◌, ℕ, ◌-◌, List}
use Rattle.lc_page.specs.Page.{page_in}
use Rattle.lc_page.specs.PageVector.{entry_at, entry_text}
use Rattle.lc_page.specs.PageWrite.{SettledIn, HasPage}
use Rattle.lc_page.specs.Writing.{IsUnderWay}
use Rattle.lc_recover.specs.RecoveryPhase.{IsWriting, IsDraft, IsNext}
use Rattle.lc_recover.specs.declared.redo_range.RedoRange.{RedoRange}
use Rattle.lc_recover.specs.declared.segment_pages.SegmentPages.{SegmentPages}
use Rattle.std.proofs.Common.{sym, ◌∙◌, ◌^◌, ap, subst, arith, get_or, IsOk, true≢false}
use Rattle.lc_page.specs.declared.draft.Draft.{Draft}
use Rattle.lc_model.specs.Stored.{page_bytes}
use Rattle.lc_recover.specs.Page.{AreAt}
use Rattle.lc_recover.proofs.Begins.{ComesNext, nearest, some_there, lies_within, lies_below, is_next, only_next, its_page, its_number, small_number, newer, bytes_are, still_old}
use Rattle.lc_recover.proofs.page_steps.begin_page.Given.{Over}
use Rattle.lc_recover.proofs.page_steps.begin_page.Goals.{After-begin}
use Rattle.lc_recover.proofs.page_steps.begin_page.Goals as goal

-- src/page_steps.rt:90:19
pub overflow_sub-segment : goal.overflow_sub-segment
overflow_sub-segment g c = some_there c.args.geometry.now c.args.writes.now c.requires.sound c.deref.result.now c.first_page-changes.result.now (record { segment = 0; page = 0; seq = 0; log = 0; place = 0; words = 0; offset = 0; len = 0 }) c.deref.ensures.value c.requires.left c.first_page-changes.ensures

-- src/page_steps.rt:91:18
pub index-pages-requires : goal.index-pages-requires
index-pages-requires g c = omega (arith, c.args.writes.now.kept.segments.ok.0, lies_within c.args.geometry.now c.args.writes.now c.requires.sound c.deref.result.now c.first_page-changes.result.now (record { segment = 0; page = 0; seq = 0; log = 0; place = 0; words = 0; offset = 0; len = 0 }) c.deref.ensures.value c.requires.left c.first_page-changes.ensures)

module _ (g : Over) (c : goal.After-bytes-1 g) where
  abbrev p_change : RedoRange
  p_change = get_or c.first_page-changes.result.now 0 (record { segment = 0; page = 0; seq = 0; log = 0; place = 0; words = 0; offset = 0; len = 0 })

  p_next : IsNext c.args.writes.now p_change c.index-pages.result.now
  p_next = is_next c.args.geometry.now c.args.writes.now c.requires.sound c.deref.result.now c.first_page-changes.result.now (record { segment = 0; page = 0; seq = 0; log = 0; place = 0; words = 0; offset = 0; len = 0 }) c.deref.ensures.value c.requires.left c.first_page-changes.ensures c.index-pages.result.now _ c.index-pages.ensures

-- src/page_steps.rt:93:27
pub page-requires : goal.page-requires
page-requires g c =
    omega (
      arith,
      its_page c.args.geometry.now c.args.writes.now c.requires.sound (p_change g c) (p_next g c).change,
      c.requires.sound.pages.bytes ((p_change g c).segment - 1) c.index-pages.result.now (p_next g c).kept,
    )

-- src/page_steps.rt:95:18
pub index-number-requires : goal.index-number-requires
index-number-requires g c = omega (arith, c.args.writes.now.merged.numbers.ok.0, lies_below c.args.geometry.now c.args.writes.now c.requires.sound c.deref.result.now c.first_page-changes.result.now (record { segment = 0; page = 0; seq = 0; log = 0; place = 0; words = 0; offset = 0; len = 0 }) c.deref.ensures.value c.requires.left c.first_page-changes.ensures)

module _ (g : Over) (c : goal.After-bytes-5-1 g) where
  abbrev change : RedoRange
  change = get_or c.first_page-changes.result.now 0 (record { segment = 0; page = 0; seq = 0; log = 0; place = 0; words = 0; offset = 0; len = 0 })

  near : ComesNext c.args.writes.now.merged.changes.items c.args.writes.now.next c.first_page-changes.result.now change
  near = nearest c.args.geometry.now c.args.writes.now c.requires.sound c.deref.result.now c.first_page-changes.result.now (record { segment = 0; page = 0; seq = 0; log = 0; place = 0; words = 0; offset = 0; len = 0 }) c.deref.ensures.value c.requires.left c.first_page-changes.ensures

  next : IsNext c.args.writes.now change c.index-pages.result.now
  next = is_next c.args.geometry.now c.args.writes.now c.requires.sound c.deref.result.now c.first_page-changes.result.now (record { segment = 0; page = 0; seq = 0; log = 0; place = 0; words = 0; offset = 0; len = 0 }) c.deref.ensures.value c.requires.left c.first_page-changes.ensures c.index-pages.result.now _ c.index-pages.ensures

-- src/page_steps.rt:96:23
pub begin-requires-clause-page : goal.begin-requires-clause-page
begin-requires-clause-page g c =
    omega (
      arith,
      its_page c.args.geometry.now c.args.writes.now c.requires.sound (change g c) (near g c).at,
      c.requires.sound.pages.entries ((change g c).segment - 1) c.index-pages.result.now (next g c).kept,
    )

-- src/page_steps.rt:96:23
pub begin-requires-clause-seq : goal.begin-requires-clause-seq
begin-requires-clause-seq g c =
    subst (λ (n : ℕ). n ≤ 2 ^ 60)
    (sym (its_number c.args.geometry.now c.args.writes.now c.requires.sound (change g c) (near g c).at _) ∙ sym c.index-number.ensures)
    (small_number c.args.geometry.now c.args.writes.now c.requires.sound (change g c) (near g c).at)

module _ (g : Over) (c : goal.After-begin-arg-1 g) where
  abbrev b_change : RedoRange
  b_change = get_or c.first_page-changes.result.now 0 (record { segment = 0; page = 0; seq = 0; log = 0; place = 0; words = 0; offset = 0; len = 0 })

  b_next : IsNext c.args.writes.now b_change c.index-pages.result.now
  b_next = is_next c.args.geometry.now c.args.writes.now c.requires.sound c.deref.result.now c.first_page-changes.result.now (record { segment = 0; page = 0; seq = 0; log = 0; place = 0; words = 0; offset = 0; len = 0 }) c.deref.ensures.value c.requires.left c.first_page-changes.ensures c.index-pages.result.now _ c.index-pages.ensures

-- src/page_steps.rt:97:22
pub begin-requires-in-Ok : goal.begin-requires-in-Ok
begin-requires-in-Ok g c =
    omega (arith, its_page c.args.geometry.now c.args.writes.now c.requires.sound (b_change g c) (b_next g c).change, c.requires.room, ap (λ (d : Draft). d.page) c.in-Ok.ensures.draft)

module _ (g : Over) (c : After-begin g) where
  abbrev r_change : RedoRange
  r_change = get_or c.first_page-changes.result.now 0 (record { segment = 0; page = 0; seq = 0; log = 0; place = 0; words = 0; offset = 0; len = 0 })

  r_near : ComesNext c.args.writes.now.merged.changes.items c.args.writes.now.next c.first_page-changes.result.now r_change
  r_near = nearest c.args.geometry.now c.args.writes.now c.requires.sound c.deref.result.now c.first_page-changes.result.now (record { segment = 0; page = 0; seq = 0; log = 0; place = 0; words = 0; offset = 0; len = 0 }) c.deref.ensures.value c.requires.left c.first_page-changes.ensures

  r_next : IsNext c.args.writes.now r_change c.index-pages.result.now
  r_next = is_next c.args.geometry.now c.args.writes.now c.requires.sound c.deref.result.now c.first_page-changes.result.now (record { segment = 0; page = 0; seq = 0; log = 0; place = 0; words = 0; offset = 0; len = 0 }) c.deref.ensures.value c.requires.left c.first_page-changes.ensures c.index-pages.result.now _ c.index-pages.ensures

  -- the write begins
  r_ok : IsOk c.begin.result
  r_ok = c.begin.ensures.done.1 (
    (still_old c.args.geometry.now c.args.writes.now c.requires.sound r_change r_near.at c.index-pages.result.now r_next.kept).free,
    subst (λ (n : ℕ). (entry_at c.index-pages.result.now.texts r_change.page).stable < n)
        (sym (its_number c.args.geometry.now c.args.writes.now c.requires.sound r_change r_near.at _) ∙ sym c.index-number.ensures)
        (newer c.args.geometry.now c.args.writes.now c.requires.sound r_change r_near.at c.index-pages.result.now r_next.kept),
  )

  r_same : (d : RedoRange) (pages : SegmentPages) → IsNext c.args.writes.now d pages → (r_change ≡ d) × (c.index-pages.result.now ≡ pages)
  r_same d pages is = only_next c.args.writes.now r_change d c.index-pages.result.now pages r_next is

module _ (g : Over) (c : After-begin g) (i : IsWriting c.args.geometry.now c.args.writes.now) where
  -- the bytes are those of the result
  put_there : c.put_changes.new.bytes ≡ page_bytes (r_change g c).segment (r_change g c).page i.content
  put_there =
      bytes_are c.args.geometry.now c.args.writes.now i (r_change g c) (r_near g c).at c.first_page-changes.result.now (r_near g c).first
      c.index-pages.result.now (r_next g c).kept c.put_changes.new.bytes c.copy_from_slice.new.self c.put_changes.ensures.len
      (c.copy_from_slice.ensures.after ∙ c.page.ensures.bytes)
      (λ ranges segment page at. c.put_changes.ensures.put ranges segment page
      (subst (λ (l : List (List ℕ)). AreAt l c.first_page-changes.result.now ranges) (sym c.deref-2.ensures.value) at))

  number_is : c.index-number.result.now ≡ i.numbers (r_change g c).segment
  number_is = c.index-number.ensures ∙ its_number c.args.geometry.now c.args.writes.now i (r_change g c) (r_near g c).at _

-- The write has begun.

pub returns-in-Ok-begin-clause-drafted : goal.returns-in-Ok-begin-clause-drafted
returns-in-Ok-begin-clause-drafted g c i d pages is =
    let after = (goal.at.returns-in-Ok-begin-clause-drafted g c).After-begin in
    let same : r_change g after ≡ d = (r_same g after d pages is).0 in
    subst (λ (e : Draft). IsDraft i.content i.numbers d e) (sym (c.in-Ok-begin.ensures.draft ∙ c.in-Ok.ensures.draft))
    (record {
      page = ap (λ (e : RedoRange). e.page) same;
      seq = number_is g after i ∙ ap (λ (e : RedoRange). i.numbers e.segment) same;
      bytes = put_there g after i ∙ ap (λ (e : RedoRange). page_bytes e.segment e.page i.content) same;
    })

pub returns-in-Ok-begin-clause-begun : goal.returns-in-Ok-begin-clause-begun
returns-in-Ok-begin-clause-begun g c d pages is =
    let after = (goal.at.returns-in-Ok-begin-clause-begun g c).After-begin in
    let same = r_same g after d pages is in
    subst (λ (ps : SegmentPages). SettledIn g.D.Area c.args.area.now d.page (entry_text (entry_at ps.texts d.page)) → IsUnderWay g.D.Area c.begin-in-Ok.new.area c.in-Ok-begin.write (entry_text (entry_at ps.texts d.page)) (page_in (g.D.Area.now c.args.area.now) d.page)) same.1
    (subst (λ (e : RedoRange). SettledIn g.D.Area c.args.area.now e.page (entry_text (entry_at c.index-pages.result.now.texts e.page)) → IsUnderWay g.D.Area c.begin-in-Ok.new.area c.in-Ok-begin.write (entry_text (entry_at c.index-pages.result.now.texts e.page)) (page_in (g.D.Area.now c.args.area.now) e.page)) same.0
    (subst (λ (p : ℕ). SettledIn g.D.Area c.args.area.now p (entry_text (entry_at c.index-pages.result.now.texts (r_change g after).page)) → IsUnderWay g.D.Area c.begin-in-Ok.new.area c.in-Ok-begin.write (entry_text (entry_at c.index-pages.result.now.texts (r_change g after).page)) (page_in (g.D.Area.now c.args.area.now) p)) (ap (λ (e : Draft). e.page) c.in-Ok.ensures.draft)
    (c.in-Ok-begin.ensures.under_way (entry_text (entry_at c.index-pages.result.now.texts (r_change g after).page)) c.in-Ok.ensures.begun)))

pub returns-in-Ok-begin-clause-page : goal.returns-in-Ok-begin-clause-page
returns-in-Ok-begin-clause-page g c d pages is =
    let after = (goal.at.returns-in-Ok-begin-clause-page g c).After-begin in
    let same = r_same g after d pages is in
    subst (λ (ps : SegmentPages). SettledIn g.D.Area c.args.area.now d.page (entry_text (entry_at ps.texts d.page)) → HasPage g.D.Area c.begin-in-Ok.new.area d.page (λ page. page ≡ page_in (g.D.Area.now c.args.area.now) d.page)) same.1
    (subst (λ (e : RedoRange). SettledIn g.D.Area c.args.area.now e.page (entry_text (entry_at c.index-pages.result.now.texts e.page)) → HasPage g.D.Area c.begin-in-Ok.new.area e.page (λ page. page ≡ page_in (g.D.Area.now c.args.area.now) e.page)) same.0
    (subst (λ (p : ℕ). SettledIn g.D.Area c.args.area.now p (entry_text (entry_at c.index-pages.result.now.texts (r_change g after).page)) → HasPage g.D.Area c.begin-in-Ok.new.area p (λ page. page ≡ page_in (g.D.Area.now c.args.area.now) p)) (ap (λ (e : Draft). e.page) c.in-Ok.ensures.draft)
    (c.begin-in-Ok.ensures.page (entry_text (entry_at c.index-pages.result.now.texts (r_change g after).page)) c.in-Ok.ensures.begun)))

pub returns-in-Ok-begin-clause-others : goal.returns-in-Ok-begin-clause-others
returns-in-Ok-begin-clause-others g c d pages is page differ =
    let same = r_same g (goal.at.returns-in-Ok-begin-clause-others g c).After-begin d pages is in
    c.begin-in-Ok.ensures.others page (λ beside. differ (beside ∙ ap (λ (e : Draft). e.page) c.in-Ok.ensures.draft ∙ ap (λ (e : RedoRange). e.page) same.0))

-- The device has failed.

pub returns-in-Err-begin-clause-page : goal.returns-in-Err-begin-clause-page
returns-in-Err-begin-clause-page g c d pages is =
    let after = (goal.at.returns-in-Err-begin-clause-page g c).After-begin in
    let same = r_same g after d pages is in
    subst (λ (ps : SegmentPages). SettledIn g.D.Area c.args.area.now d.page (entry_text (entry_at ps.texts d.page)) → HasPage g.D.Area c.begin-in-Ok.new.area d.page (λ page. page ≡ page_in (g.D.Area.now c.args.area.now) d.page)) same.1
    (subst (λ (e : RedoRange). SettledIn g.D.Area c.args.area.now e.page (entry_text (entry_at c.index-pages.result.now.texts e.page)) → HasPage g.D.Area c.begin-in-Ok.new.area e.page (λ page. page ≡ page_in (g.D.Area.now c.args.area.now) e.page)) same.0
    (subst (λ (p : ℕ). SettledIn g.D.Area c.args.area.now p (entry_text (entry_at c.index-pages.result.now.texts (r_change g after).page)) → HasPage g.D.Area c.begin-in-Ok.new.area p (λ page. page ≡ page_in (g.D.Area.now c.args.area.now) p)) (ap (λ (e : Draft). e.page) c.in-Ok.ensures.draft)
    (c.begin-in-Ok.ensures.page (entry_text (entry_at c.index-pages.result.now.texts (r_change g after).page)) c.in-Ok.ensures.begun)))

pub returns-in-Err-begin-clause-others : goal.returns-in-Err-begin-clause-others
returns-in-Err-begin-clause-others g c d pages is page differ =
    let same = r_same g (goal.at.returns-in-Err-begin-clause-others g c).After-begin d pages is in
    c.begin-in-Ok.ensures.others page (λ beside. differ (beside ∙ ap (λ (e : Draft). e.page) c.in-Ok.ensures.draft ∙ ap (λ (e : RedoRange). e.page) same.0))

-- The write does not fail to begin otherwise.

pub returns-in-Err-clause-page : goal.returns-in-Err-clause-page
returns-in-Err-clause-page g c = absurd (true≢false (sym (subst (λ (r : _). IsOk r) c.in-Err.is (r_ok g (goal.at.returns-in-Err-clause-page g c).After-begin))))

pub returns-in-Err-clause-device : goal.returns-in-Err-clause-device
returns-in-Err-clause-device g c = absurd (true≢false (sym (subst (λ (r : _). IsOk r) c.in-Err.is (r_ok g (goal.at.returns-in-Err-clause-device g c).After-begin))))

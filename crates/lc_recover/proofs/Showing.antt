-- What a stop leaves of the areas in each part of a recovery.
use Rattle.std.proofs.Common.{◌≡◌, ◌⊎◌, ℕ, ◌+◌, ◌-◌, ◌*◌, ◌<◌, ◌≤◌, true, Some, List, [], map, length, sym, ◌∙◌, ap, subst, arith, inl, inr}
use Rattle.std.specs.Prelude.{slice_get, slice_index_or}
use Rattle.std.proofs.lemmas.Bool.{cases_eq, cases_lt}
use Rattle.std.proofs.lemmas.List.{length-map}
use Rattle.std.proofs.lemmas.Option.{none-some, slice_get_within, slice_get_past, same_Some as one_item}
use Rattle.lc_disk.specs.Area.{IsImage}
use Rattle.lc_disk.specs.declared.area.Area.{Ghosts}
use Rattle.lc_disk.proofs.Images.{image_clean}
use Rattle.lc_record.specs.Content.{segment_of}
use Rattle.lc_record.specs.Words.{words_of}
use Rattle.lc_record.specs.declared.geometry.Geometry.{Geometry}
use Rattle.lc_record.proofs.ListLemmas.{slice_get_some as get-some, slice_get-map_some as get-map, cases_Option as cases_option}
use Rattle.lc_log.specs.LogText.{IsLogText}
use Rattle.lc_log.proofs.LogLemmas.{at_rest_none}
use Rattle.lc_log.proofs.StateLemmas.{rest_image}
use Rattle.lc_model.specs.Merge.{Page, StoreText}
use Rattle.lc_model.specs.Stored.{page_bytes}
use Rattle.lc_page.specs.Page.{Page as AreaPage, page_in}
use Rattle.lc_page.specs.PageVector.{entry_at, entry_text}
use Rattle.lc_page.specs.PageWrite.{drafted}
use Rattle.lc_page.specs.Writing.{draft_of}
use Rattle.lc_page.specs.declared.page_text.PageText.{PageText}
use Rattle.lc_page.specs.declared.writing.Writing.{Writing}
use Rattle.lc_page.proofs.StateLemmas.{settled_images}
use Rattle.lc_page.proofs.WritingLemmas.{either_under_way}
use Rattle.lc_recover.proofs.Bridge.{same_page, show_pages-merge, show_logs-merge}
use Rattle.lc_recover.proofs.Images.{HoldBytes, len-none, len-log, len-segment}
use Rattle.lc_recover.specs.Pages.{page_read, kept_page, bytes_of_page}
use Rattle.lc_recover.specs.Reads.{AllMergeTo, AreHonest, HaveLengths}
use Rattle.lc_recover.specs.Shows.{ShowPages, ShowLogs, new_page}
use Rattle.lc_recover.specs.RecoveryPhase.{AreTexts, AreasFit, AreaFits, AsFarAs, IsWhole, IsCurrent, IsDraft, IsWriting, IsResetting, IsEmptied, ReadsWords, RestsAt, Rests, RestsOrWrites, SegmentFits}
use Rattle.lc_recover.specs.declared.redo_range.RedoRange.{RedoRange}
use Rattle.lc_recover.specs.declared.finished.Finished.{Finished}
use Rattle.lc_recover.specs.declared.log_resets.LogResets.{LogResets}
use Rattle.lc_recover.specs.declared.page_writes.PageWrites.{PageWrites}
use Rattle.lc_recover.specs.declared.segment_pages.SegmentPages.{SegmentPages}
use Rattle.lc_recover.specs.declared.recovery_phase.RecoveryPhase.{RecoveryPhase}
use Rattle.lc_recover.specs.declared.recovery_phase.RecoveryPhase.TheVariants.{Writing as WritingPages, Resetting, Done}

-- a page of an area as it is kept
kept-as : (area : List ℕ) (pages : SegmentPages) (page : ℕ) → (page_in area page).sequence ≡ (entry_at pages.texts page).stable → (page_in area page).content ≡ bytes_of_page pages page → page_read area page ≡ kept_page pages page
kept-as area pages page sequence content = same_page (page_read area page) (kept_page pages page) sequence content

-- the page is being written, or it is not
is_current : (g : Geometry) (w : PageWrites) (i : IsWriting g w) (segment page : ℕ) → ((write : Writing) × IsCurrent w segment page write) ⊎ ((write : Writing) → IsCurrent w segment page write → ⊥)
is_current g w i segment page =
    elim (cases_option w.current) [
      | inl none ↦ inr (λ write is. none-some write (sym none ∙ is.0))
      | inr some ↦
          let draft = i.drafts some.0 some.1 in
          (elim (cases_eq draft.0.segment segment) [
            | inl of ↦
                (elim (cases_eq (draft_of some.0).page page) [
                  | inl here ↦ inl (some.0, (some.1, (draft.0, draft.1, of), here))
                  | inr other ↦ inr (λ write is. other (ap (λ (x : Writing). (draft_of x).page) (one_item some.0 write (sym some.1 ∙ is.0)) ∙ is.2))
                ])
            | inr other ↦ inr (λ write is. other (ap (λ (c : RedoRange). c.segment) (one_item draft.0 is.1.0 (sym draft.1 ∙ is.1.1)) ∙ is.1.2))
          ])
    ]

module _ {D : Type 0} (a : Ghosts D) (g : Geometry) where
  pub have-lengths : (stage : RecoveryPhase) (areas : List D) → AreasFit a g stage areas → HaveLengths a g areas
  have-lengths stage areas fits k =
      elim (cases_lt k (length areas)) [
        | inl within ↦
            let area = get-some areas k within in
            get-map (λ d. length (a.now d)) areas k area.0 area.1 ∙ (fits.each k area.0 area.1).len
        | inr past ↦
            slice_get_past (map (λ d. length (a.now d)) areas) k (omega (arith, past, length-map areas (λ d. length (a.now d))))
            ∙ sym (len-none g k (omega (arith, past, fits.count)))
      ]

  pub hold-bytes : (stage : RecoveryPhase) (areas : List D) → AreasFit a g stage areas → AreHonest a areas → HoldBytes a areas
  hold-bytes stage areas fits honest = λ area device is. (fits.each area device is).bytes (honest area device is)

  -- an image of a page that rests has it as it is kept
  pub rests-as : (pages : SegmentPages) (area : D) (page : ℕ) → RestsAt a pages area page → (image : List ℕ) → IsImage (a.now area) (a.dirty area) image → page_read image page ≡ kept_page pages page
  rests-as pages area page rests image of =
      let both = settled_images (a.now area) (a.dirty area) page (entry_text (entry_at pages.texts page)) rests.settled image of in
      kept-as image pages page (ap (λ (t : PageText). t.seq) both.0) (ap (λ (p : AreaPage). p.content) both.1 ∙ rests.content)

  -- the area of a segment
  record OfSegment (stage : RecoveryPhase) (s : ℕ) (area : D) : Type 0 where
    known : s < g.segments
    len : length (a.now area) ≡ 2 * 272 * g.pages
    fits : SegmentFits a g stage s area

  of-segment : (stage : RecoveryPhase) (areas : List D) → AreasFit a g stage areas → (s : ℕ) (area : D) → slice_get areas (g.nodes + s) ≡ Some area → a.honest area ≡ true → OfSegment stage s area
  of-segment stage areas fits s area is honest =
      let known : s < g.segments = omega (arith, slice_get_within areas (g.nodes + s) area is, fits.count) in
      let one : AreaFits a g stage (g.nodes + s) area = fits.each (g.nodes + s) area is in
      let same : (g.nodes + s) - g.nodes ≡ s = omega arith in
      record {
        known = known;
        len = one_item (length (a.now area)) (2 * 272 * g.pages) (one.len ∙ len-segment g (g.nodes + s) (omega arith) (omega (arith, known)));
        fits = subst (λ (n : ℕ). SegmentFits a g stage n area) same (one.segment honest (omega arith));
      }

  -- While pages are written

  module _ (w : PageWrites) (areas : List D) (fits : AreasFit a g (WritingPages w) areas) (honest : AreHonest a areas) (i : IsWriting g w) where
    -- a page as it is kept is as it was read, or new
    pub kept-or_new : (s page : ℕ) (pages : SegmentPages) (text : Page) → slice_get w.kept.segments.items s ≡ Some pages → slice_get (segment_of (s + 1) i.store.pages) page ≡ Some text
        → (read : Page) → read ≡ kept_page pages page → (read ≡ text) ⊎ (read ≡ new_page i.content i.numbers (s + 1) page)
    kept-or_new s page pages text pages_is text_is read as_kept =
        elim (i.pages.each s page pages text pages_is text_is) [
          | inl new ↦ inr (as_kept ∙ same_page (kept_page pages page) (new_page i.content i.numbers (s + 1) page) new.1.sequence new.1.same)
          | inr old ↦ inl (as_kept ∙ same_page (kept_page pages page) text old.1.sequence old.1.same)
        ]

    -- the page that is written is the new one
    draft-new : (segment page : ℕ) (write : Writing) → IsCurrent w segment page write → (image : List ℕ) → page_in image page ≡ drafted (draft_of write) → page_read image page ≡ new_page i.content i.numbers segment page
    draft-new segment page write is image written =
        let draft = i.drafts write is.0 in
        let its : IsDraft i.content i.numbers draft.0 (draft_of write) = draft.2 in
        let of : draft.0.segment ≡ segment = ap (λ (c : RedoRange). c.segment) (one_item draft.0 is.1.0 (sym draft.1 ∙ is.1.1)) ∙ is.1.2 in
        let here : draft.0.page ≡ page = sym its.page ∙ is.2 in
        same_page (page_read image page) (new_page i.content i.numbers segment page)
        (ap (λ (p : AreaPage). p.sequence) written ∙ its.seq ∙ ap i.numbers of)
        (ap (λ (p : AreaPage). p.content) written ∙ its.bytes ∙ ap (λ (n : ℕ). page_bytes n draft.0.page i.content) of ∙ ap (λ (n : ℕ). page_bytes segment n i.content) here)

    one-page : (s page : ℕ) (area : D) (text : Page) → slice_get areas (g.nodes + s) ≡ Some area → slice_get (segment_of (s + 1) i.store.pages) page ≡ Some text → a.honest area ≡ true
        → (image : List ℕ) → IsImage (a.now area) (a.dirty area) image → (page_read image page ≡ text) ⊎ (page_read image page ≡ new_page i.content i.numbers (s + 1) page)
    one-page s page area text area_is text_is own image of =
        let its = of-segment (WritingPages w) areas fits s area area_is own in
        let within : page < g.pages = omega (arith, slice_get_within (segment_of (s + 1) i.store.pages) page text text_is, i.pages.shapes s its.known) in
        let pages = get-some w.kept.segments.items s (omega (arith, its.known, i.pages.count)) in
        let rests : RestsOrWrites a g w s pages.0 area = its.fits pages.0 pages.1 in
        elim (is_current g w i (s + 1) page) [
          | inl current ↦
              let here : (draft_of current.0).page ≡ page = current.1.2 in
              let room : (2 * (draft_of current.0).page + 2) * 272 ≤ length (a.now area) = omega (arith, here, within, its.len) in
              let either = (either_under_way a area current.0 (entry_text (entry_at pages.0.texts page)) (record { sequence = (entry_at pages.0.texts page).stable; content = bytes_of_page pages.0 page }) room (rests.writes page current.0 current.1) own).images image of in
              (elim either [
                | inl old ↦
                    let is_old = ap (page_in image) (sym here) ∙ old in
                    kept-or_new s page pages.0 text pages.1 text_is (page_read image page) (kept-as image pages.0 page (ap (λ (p : AreaPage). p.sequence) is_old) (ap (λ (p : AreaPage). p.content) is_old))
                | inr new ↦ inr (draft-new (s + 1) page current.0 current.1 image (ap (page_in image) (sym here) ∙ new))
              ])
          | inr none ↦ kept-or_new s page pages.0 text pages.1 text_is (page_read image page) (rests-as pages.0 area page (rests.rests page within none) image of)
        ]

    pub writing-shows : ShowPages a g areas i.store i.content i.numbers
    writing-shows = record {
      logs = λ log area within is own image of.
          (let reads : ReadsWords a (slice_index_or w.kept.logs.items log []) area = (fits.each log area is).log own within in
          let words : words_of image ≡ slice_index_or w.kept.logs.items log [] = ap words_of (image_clean (a.now area) (a.dirty area) reads.clean image of) ∙ reads.words_are in
          subst (λ (ws : List ℕ). IsLogText ws (slice_index_or i.store.logs log [])) (sym words) (i.texts.texts log within));
      pages = one-page;
    }

  -- While logs are emptied, and afterwards

  emptied-text : (area : D) → 8 ≤ length (a.now area) → IsEmptied a area → (image : List ℕ) → IsImage (a.now area) (a.dirty area) image → IsLogText (words_of image) []
  emptied-text area long emptied image of =
      rest_image (a.now area) (a.dirty area) 0 [] (at_rest_none (a.now area) (a.dirty area) long emptied.closed (emptied.clean 0)) image of

  log-long : (stage : RecoveryPhase) (log : ℕ) (area : D) → AreaFits a g stage log area → log < g.nodes → 8 ≤ length (a.now area)
  log-long stage log area fits within =
      let len : length (a.now area) ≡ 8 * (g.words + 1) = one_item (length (a.now area)) (8 * (g.words + 1)) (fits.len ∙ len-log g log within) in
      omega (arith, len)

  pub resetting-shows : (r : LogResets) (areas : List D) → AreasFit a g (Resetting r) areas → AreHonest a areas → (i : IsResetting g r) → ShowLogs a g areas i.store r.segments.items
  resetting-shows r areas fits honest i = record {
    logs = λ log area within is own image of.
        (let one : AreaFits a g (Resetting r) log area = fits.each log area is in
        elim (one.log own within) [
          | inl before ↦ inl (emptied-text area (log-long (Resetting r) log area one within) before.1 image of)
          | inr rest ↦
              (elim rest [
                | inl here ↦ (here.2 (slice_index_or i.store.logs log []) (i.texts.texts log within)).images image of
                | inr behind ↦
                    let reads : ReadsWords a (slice_index_or r.logs.items log []) area = behind.2 in
                    let words : words_of image ≡ slice_index_or r.logs.items log [] = ap words_of (image_clean (a.now area) (a.dirty area) reads.clean image of) ∙ reads.words_are in
                    inr (subst (λ (ws : List ℕ). IsLogText ws (slice_index_or i.store.logs log [])) (sym words) (i.texts.texts log within))
              ])
        ]);
    pages = λ s page area pages area_is pages_is within own image of.
        (let its = of-segment (Resetting r) areas fits s area area_is own in
        let rests : Rests a g pages area = its.fits pages pages_is in
        rests-as pages area page (rests.rests page within) image of);
  }

  pub done-shows : (f : Finished) (areas : List D) → AreasFit a g (Done f) areas → AreHonest a areas → (store : StoreText) → ShowLogs a g areas store f.segments.items
  done-shows f areas fits honest store = record {
    logs = λ log area within is own image of.
        (let one : AreaFits a g (Done f) log area = fits.each log area is in
        inl (emptied-text area (log-long (Done f) log area one within) (one.log own within) image of));
    pages = λ s page area pages area_is pages_is within own image of.
        (let its = of-segment (Done f) areas fits s area area_is own in
        let rests : Rests a g pages area = its.fits pages pages_is in
        rests-as pages area page (rests.rests page within) image of);
  }

-- One result

module _ {D : Type 0} (a : Ghosts D) (g : Geometry) where
  pub writing-merges : (w : PageWrites) (areas : List D) → AreasFit a g (WritingPages w) areas → AreHonest a areas → (i : IsWriting g w) → AllMergeTo a g areas i.content i.numbers
  writing-merges w areas fits honest i =
      show_pages-merge a g areas w.kept.logs.items i.store w.kept.segments.items (AsFarAs i.between.front i.content i.numbers) i.content i.numbers (have-lengths a g (WritingPages w) areas fits) honest i.texts i.pages
      i.result.merges (writing-shows a g w areas fits honest i)

  pub resetting-merges : (r : LogResets) (areas : List D) → AreasFit a g (Resetting r) areas → AreHonest a areas → (i : IsResetting g r) → AllMergeTo a g areas i.whole.content i.whole.numbers
  resetting-merges r areas fits honest i =
      show_logs-merge a g areas r.logs.items i.store r.segments.items r.numbers.items (have-lengths a g (Resetting r) areas fits) honest i.texts i.whole (resetting-shows a g r areas fits honest i)

  -- of a store that was read from the texts of logs
  pub done-merges : (f : Finished) (areas : List D) → AreasFit a g (Done f) areas → AreHonest a areas → (logs : List (List ℕ)) (store : StoreText) → AreTexts g logs store → (whole : IsWhole g f.segments.items f.numbers.items store)
      → AllMergeTo a g areas whole.content whole.numbers
  done-merges f areas fits honest logs store texts whole =
      show_logs-merge a g areas logs store f.segments.items f.numbers.items (have-lengths a g (Done f) areas fits) honest texts whole (done-shows a g f areas fits honest store)

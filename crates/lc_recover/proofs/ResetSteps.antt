-- What is known of the areas while logs are emptied, and what a stop leaves of them.
use Rattle.std.proofs.Common.{◌≡◌, ◌≢◌, ℕ, ◌+◌, ◌-◌, ◌*◌, ◌<◌, ◌≤◌, Bool, true, false, Some, None, List, [], length, refl, sym, ◌∙◌, ap, subst, arith, inl, inr, lt-ltb, true≢false}
use Rattle.std.specs.Prelude.{slice_get, slice_set, slice_index_or, if◌then◌else◌, nat_lt}
use Rattle.std.proofs.lemmas.Option.{same_Some as one_item}
use Rattle.lc_disk.specs.Area.{IsImage}
use Rattle.lc_disk.specs.declared.area.Area.{Ghosts}
use Rattle.lc_disk.proofs.Images.{image_clean}
use Rattle.lc_record.specs.Words.{words_of}
use Rattle.lc_record.specs.declared.geometry.Geometry.{Geometry}
use Rattle.lc_record.specs.declared.record.Record.{Record}
use Rattle.lc_log.specs.LogText.{IsLogText}
use Rattle.lc_log.specs.NodeLog.{IsWithOrWithout, IsShut, LeavesOnly, EachImage}
use Rattle.lc_log.proofs.ResetLemmas.{closed_words}
use Rattle.lc_page.specs.Page.{page_in, text_in}
use Rattle.lc_page.specs.declared.page_text.PageText.{PageText}
use Rattle.lc_page.proofs.StateLemmas.{settled_reads}
use Rattle.lc_page.specs.PageVector.{entry_at, entry_text}
use Rattle.lc_recover.proofs.AreaLemmas.{get-set, fits-set, begins}
use Rattle.lc_recover.specs.Reads.{AreHonest, area_len, area_count}
use Rattle.lc_recover.specs.Pages.{page_read, kept_page}
use Rattle.lc_recover.specs.Shows.{ShowLogs}
use Rattle.lc_recover.specs.RecoveryPhase.{AreasFit, LogIs, ReadsWords, Rests, IsEmptied, IsResetting}
use Rattle.lc_recover.specs.declared.log_resets.LogResets.{LogResets}
use Rattle.lc_recover.specs.declared.segment_pages.SegmentPages.{SegmentPages}
use Rattle.lc_recover.specs.declared.recovery_phase.RecoveryPhase.TheVariants.{Resetting, Syncing}

pub log_len : (g : Geometry) (k : ℕ) → k < g.nodes → area_len g k ≡ Some (8 * (g.words + 1))
log_len g k less = ap (λ (b : Bool). if b then Some (8 * (g.words + 1)) else if nat_lt k (area_count g) then Some (2 * 272 * g.pages) else None) (lt-ltb k g.nodes less)

pub long_log : {D : Type 0} (a : Ghosts D) (g : Geometry) (k : ℕ) (area : D) → k < g.nodes → Some (length (a.now area)) ≡ area_len g k → 8 ≤ length (a.now area)
long_log a g k area less is =
    let same : length (a.now area) ≡ 8 * (g.words + 1) = one_item (length (a.now area)) (8 * (g.words + 1)) (is ∙ log_len g k less) in
    omega (arith, same)

module _ {D : Type 0} (a : Ghosts D) where
  -- a log that was emptied has no record, whatever a stop leaves of it
  pub emptied-shows : (records : List Record) (area : D) → 8 ≤ length (a.now area) → IsEmptied a area → (image : List ℕ) → IsImage (a.now area) (a.dirty area) image → IsWithOrWithout [] records (words_of image)
  emptied-shows records area long empty image is =
      inl (subst (λ (l : List ℕ). IsLogText (words_of l) []) (sym (image_clean (a.now area) (a.dirty area) empty.clean image is)) (closed_words (a.now area) long empty.closed))

  pub words-show : (words : List ℕ) (records : List Record) (area : D) → IsLogText words records → ReadsWords a words area → (image : List ℕ) → IsImage (a.now area) (a.dirty area) image → IsLogText (words_of image) records
  words-show words records area text reads image is =
      subst (λ (l : List ℕ). IsLogText l records) (sym (ap words_of (image_clean (a.now area) (a.dirty area) reads.clean image is) ∙ reads.words_are)) text

  pub log-shows : (r : LogResets) (log : ℕ) (records : List Record) (area : D) → 8 ≤ length (a.now area) → IsLogText (slice_index_or r.logs.items log []) records → LogIs a r log area →
      (image : List ℕ) → IsImage (a.now area) (a.dirty area) image → IsWithOrWithout [] records (words_of image)
  log-shows r log records area long text known image is =
      elim known [
        | inl empty ↦ emptied-shows records area long empty.1 image is
        | inr other ↦
            (elim other [
              | inl shut ↦ (shut.2 records text).images image is
              | inr reads ↦ inr (words-show (slice_index_or r.logs.items log []) records area text reads.2 image is)
            ])
      ]

  -- the pages of a segment that rests are as they are kept, whatever a stop leaves
  pub rests-show : (g : Geometry) (pages : SegmentPages) (area : D) → ((k : ℕ) → slice_index_or (a.now area) k 0 < 256) → Rests a g pages area → (page : ℕ) → page < g.pages → (image : List ℕ) → IsImage (a.now area) (a.dirty area) image → page_read image page ≡ kept_page pages page
  rests-show g pages area fits rests page within image is =
      let here = rests.rests page within in
      let same : image ≡ a.now area = image_clean (a.now area) (a.dirty area) rests.clean image is in
      let text : text_in (a.now area) page ≡ entry_text (entry_at pages.texts page) = settled_reads (a.now area) (a.dirty area) page (entry_text (entry_at pages.texts page)) fits here.settled in
      ap (λ (l : List ℕ). page_read l page) same
      ∙ ap (λ (n : ℕ). record { sequence = n; bytes = (page_in (a.now area) page).content }) (ap (λ (t : PageText). t.seq) text)
      ∙ ap (λ (l : List ℕ). record { sequence = (entry_at pages.texts page).stable; bytes = l }) here.content

  -- each area shows its part, but for the one that was called, of which it is told
  module _ (g : Geometry) (r : LogResets) (areas : List D) (k : ℕ) (old new : D) (was : slice_get areas k ≡ Some old) (is_log : k < g.nodes) (fits : AreasFit a g (Resetting r) areas) (resetting : IsResetting g r) where
    text_of_log : (log : ℕ) → log < g.nodes → IsLogText (slice_index_or r.logs.items log []) (slice_index_or resetting.store.logs log [])
    text_of_log log within = resetting.texts.texts log within

    pub logs-show : AreHonest a (slice_set areas k new) → LeavesOnly a new (IsWithOrWithout [] (slice_index_or resetting.store.logs k [])) → ShowLogs a g (slice_set areas k new) resetting.store r.segments.items
    logs-show honest leaves = record {
      logs = λ log area less is alive.
          elim (get-set areas k new log area is) [
            | inl here ↦
                subst (λ (n : ℕ). EachImage (a.now area) (a.dirty area) (IsWithOrWithout [] (slice_index_or resetting.store.logs n []))) (sym here.0)
                (subst (λ (x : D). a.honest x ≡ true → EachImage (a.now x) (a.dirty x) (IsWithOrWithout [] (slice_index_or resetting.store.logs k []))) (sym here.1) leaves alive)
            | inr there ↦
                (let f = fits.each log area there.1 in
                log-shows r log (slice_index_or resetting.store.logs log []) area (long_log a g log area less f.len) (text_of_log log less) (f.log alive less))
          ];
      pages = λ s page area pages is pages_is within alive image shows.
          elim (get-set areas k new (g.nodes + s) area is) [
            | inl here ↦ absurd (omega (arith, here.0, is_log))
            | inr there ↦
                (let f = fits.each (g.nodes + s) area there.1 in
                let at : g.nodes + s - g.nodes ≡ s = omega arith in
                let rests : Rests a g pages area = subst (λ (n : ℕ). (p : SegmentPages) → slice_get r.segments.items n ≡ Some p → Rests a g p area) at (f.segment alive (omega arith)) pages pages_is in
                rests-show g pages area (f.bytes alive) rests page within image shows)
          ];
    }

-- what is known of the areas after a call of the next log's
module _ {D : Type 0} (a : Ghosts D) (g : Geometry) (r next : LogResets) (areas : List D) (k : ℕ) (old new : D) (was : slice_get areas k ≡ Some old) (fits : AreasFit a g (Resetting r) areas) (honest : a.honest new ≡ a.honest old) (len : length (a.now new) ≡ length (a.now old)) (bytes : a.honest new ≡ true → (at : ℕ) → slice_index_or (a.now new) at 0 < 256) (here : k < g.nodes) where
  pub reset-begins : AreasFit a g (Syncing 0) (slice_set areas k new)
  reset-begins =
      fits-set a g areas k old new was (Syncing 0) (Syncing 0) (begins a g (Resetting r) areas fits) (λ j area differ is f. f) (record {
        len = ap Some len ∙ (fits.each k old was).len;
        bytes = bytes;
        log = λ alive less none. absurd (omega (arith, none));
        segment = λ alive more none. absurd (omega (arith, none));
      })

  pub reset-fits : ((log : ℕ) (area : D) → log ≢ k → LogIs a r log area → LogIs a next log area) → next.segments ≡ r.segments → (a.honest new ≡ true → LogIs a next k new) → AreasFit a g (Resetting next) (slice_set areas k new)
  reset-fits others same own =
      fits-set a g areas k old new was (Resetting r) (Resetting next) fits
      (λ j area differ is f. record {
        len = f.len;
        bytes = f.bytes;
        log = λ alive less. others j area differ (f.log alive less);
        segment = λ alive more pages pages_is. f.segment alive more pages (ap (λ segments. slice_get segments.items (j - g.nodes)) (sym same) ∙ pages_is);
      })
      (record {
        len = ap Some len ∙ (fits.each k old was).len;
        bytes = bytes;
        log = λ alive less. own alive;
        segment = λ alive more. absurd (omega (arith, more, here));
      })

module _ {D : Type 0} (a : Ghosts D) (r : LogResets) where
  -- the next log, before its gate is written
  pub at-rest : (area : D) → r.is_closing ≡ false → LogIs a r r.next area → ReadsWords a (slice_index_or r.logs.items r.next []) area
  at-rest area rests known =
      elim known [
        | inl empty ↦ absurd (omega (arith, empty.0))
        | inr other ↦
            (elim other [
              | inl shut ↦ absurd (true≢false (sym shut.1 ∙ rests))
              | inr reads ↦ reads.2
            ])
      ]

  -- and after that
  pub is-closing : (area : D) → r.is_closing ≡ true → LogIs a r r.next area → (records : List Record) → IsLogText (slice_index_or r.logs.items r.next []) records → IsShut (a.now area) (a.dirty area) records
  is-closing area closes known records text =
      elim known [
        | inl empty ↦ absurd (omega (arith, empty.0))
        | inr other ↦
            (elim other [
              | inl shut ↦ shut.2 records text
              | inr reads ↦ absurd (true≢false (sym closes ∙ reads.1 refl))
            ])
      ]

  -- another log, where the gate of the next one is written
  pub turned : (log : ℕ) (area : D) → log ≢ r.next → LogIs a r log area → LogIs a (record r { is_closing = true }) log area
  turned log area differ known =
      elim known [
        | inl empty ↦ inl empty
        | inr other ↦
            (elim other [
              | inl shut ↦ absurd (differ shut.0)
              | inr reads ↦ inr (inr (reads.0, (λ same. absurd (differ same)), reads.2))
            ])
      ]

  -- and where it is stable
  pub passed : (log : ℕ) (area : D) → log ≢ r.next → LogIs a r log area → LogIs a (record r { next = r.next + 1; is_closing = false }) log area
  passed log area differ known =
      elim known [
        | inl empty ↦ inl (omega (arith, empty.0), empty.1)
        | inr other ↦
            (elim other [
              | inl shut ↦ absurd (differ shut.0)
              | inr reads ↦ inr (inr (omega (arith, reads.0, differ), (λ same. refl), reads.2))
            ])
      ]

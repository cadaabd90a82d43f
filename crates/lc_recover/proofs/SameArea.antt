-- An area of which nothing that is read or dirty has changed.
use Rattle.std.proofs.Common.{◌≡◌, ◌≢◌, ℕ, ◌-◌, ◌%◌, ◌<◌, Bool, true, Some, List, [], length, sym, ◌∙◌, ap, subst, inl, inr}
use Rattle.std.specs.Prelude.{slice_get, slice_set, slice_index, slice_index_or}
use Rattle.lc_disk.specs.Area.{IsClean}
use Rattle.lc_disk.specs.declared.area.Area.{Ghosts}
use Rattle.lc_record.specs.Words.{words_of}
use Rattle.lc_record.specs.declared.geometry.Geometry.{Geometry}
use Rattle.lc_log.specs.NodeLog.{IsShut}
use Rattle.lc_page.specs.Page.{Page, page_in}
use Rattle.lc_page.specs.PageVector.{entry_at, entry_text}
use Rattle.lc_page.specs.PageWrite.{IsSettled, IsClosing, IsClosed, IsFilling, IsFilled, IsOpening}
use Rattle.lc_page.specs.Writing.{IsUnderWay}
use Rattle.lc_page.specs.declared.page_text.PageText.{PageText}
use Rattle.lc_page.specs.declared.writing.Writing.{Writing}
use Rattle.lc_page.specs.declared.writing.Writing.TheVariants.{AtClosing, AtClosed, AtFilling, AtFilled, AtOpening}
use Rattle.lc_recover.proofs.AreaLemmas.{fits-set}
use Rattle.lc_recover.specs.Pages.{AreKept, bytes_of_page}
use Rattle.lc_recover.specs.RecoveryPhase.{AreaFits, AreasFit, LogFits, SegmentFits, LogIs, IsEmptied, HasItsWords, HasItsPages, ReadsWords, RestsAt, Rests, RestsOrWrites}
use Rattle.lc_recover.specs.declared.log_resets.LogResets.{LogResets}
use Rattle.lc_recover.specs.declared.page_writes.PageWrites.{PageWrites}
use Rattle.lc_recover.specs.declared.segment_pages.SegmentPages.{SegmentPages}
use Rattle.lc_recover.specs.declared.recovery_phase.RecoveryPhase.{RecoveryPhase}
use Rattle.lc_recover.specs.declared.recovery_phase.RecoveryPhase.TheVariants.{Syncing, Reading, Writing as WritingPages, Resetting, Done}

-- functions that are the same at each place
pub same-functions : {A B : Type 0} (f g : A → B) → ((x : A) → f x ≡ g x) → f ≡ g
same-functions f g each = λ i x. each x i

module _ {D : Type 0} (a : Ghosts D) (old new : D) (now : a.now new ≡ a.now old) (dirty : a.dirty new ≡ a.dirty old) where
  -- what holds of the bytes and of the dirty positions holds still
  carried : (P : List ℕ → (ℕ → Bool) → Type 0) → P (a.now old) (a.dirty old) → P (a.now new) (a.dirty new)
  carried P known = subst (λ (d : ℕ → Bool). P (a.now new) d) (sym dirty) (subst (λ (bytes : List ℕ). P bytes (a.dirty old)) (sym now) known)

  same-clean : IsClean (a.dirty old) → IsClean (a.dirty new)
  same-clean clean = carried (λ bytes d. IsClean d) clean

  same-its_words : (logs : List (List ℕ)) (log : ℕ) → HasItsWords a logs log old → HasItsWords a logs log new
  same-its_words logs log has = record { clean = same-clean has.clean; words_are = λ words is. has.words_are words is ∙ ap words_of (sym now) }

  same-its_pages : (g : Geometry) (segments : List SegmentPages) (s : ℕ) → HasItsPages a g segments s old → HasItsPages a g segments s new
  same-its_pages g segments s has = record {
    clean = same-clean has.clean;
    pages_are = λ pages is. subst (λ (bytes : List ℕ). AreKept bytes g.pages pages) (sym now) (has.pages_are pages is);
  }

  same-words : (words : List ℕ) → ReadsWords a words old → ReadsWords a words new
  same-words words reads = record { clean = same-clean reads.clean; words_are = ap words_of now ∙ reads.words_are }

  same-emptied : IsEmptied a old → IsEmptied a new
  same-emptied empty = record {
    clean = same-clean empty.clean;
    closed = subst (λ (bytes : List ℕ). slice_index bytes 0 % 256 ≢ 165) (sym now) empty.closed;
  }

  same-log_is : (r : LogResets) (log : ℕ) → LogIs a r log old → LogIs a r log new
  same-log_is r log known =
      elim known [
        | inl empty ↦ inl (empty.0, same-emptied empty.1)
        | inr other ↦
            (elim other [
              | inl shut ↦ inr (inl (shut.0, shut.1, λ records text. carried (λ bytes d. IsShut bytes d records) (shut.2 records text)))
              | inr reads ↦ inr (inr (reads.0, reads.1, same-words (slice_index_or r.logs.items log []) reads.2))
            ])
      ]

  same-rests_at : (pages : SegmentPages) (page : ℕ) → RestsAt a pages old page → RestsAt a pages new page
  same-rests_at pages page rests = record {
    settled = carried (λ bytes d. IsSettled bytes d page (entry_text (entry_at pages.texts page))) rests.settled;
    content = ap (λ (bytes : List ℕ). (page_in bytes page).content) now ∙ rests.content;
  }

  same-rests : (g : Geometry) (pages : SegmentPages) → Rests a g pages old → Rests a g pages new
  same-rests g pages all = record {
    clean = same-clean all.clean;
    rests = λ page within. same-rests_at pages page (all.rests page within);
  }

  same-under_way : (write : Writing) (text : PageText) (was : Page) → a.honest new ≡ a.honest old → IsUnderWay a old write text was → IsUnderWay a new write text was
  same-under_way (AtClosing w) text was same known = λ honest. carried (λ bytes d. IsClosing bytes d w.draft text was) (known (sym same ∙ honest))
  same-under_way (AtClosed w) text was same known = λ honest. carried (λ bytes d. IsClosed bytes d w.draft text was) (known (sym same ∙ honest))
  same-under_way (AtFilling w) text was same known = λ honest. carried (λ bytes d. IsFilling bytes d w.draft text was) (known (sym same ∙ honest))
  same-under_way (AtFilled w) text was same known = λ honest. carried (λ bytes d. IsFilled bytes d w.draft text was) (known (sym same ∙ honest))
  same-under_way (AtOpening w) text was same known = λ honest. carried (λ bytes d. IsOpening bytes d w.draft text was) (known (sym same ∙ honest))

  same-writes : (g : Geometry) (w : PageWrites) (s : ℕ) (pages : SegmentPages) → a.honest new ≡ a.honest old → RestsOrWrites a g w s pages old → RestsOrWrites a g w s pages new
  same-writes g w s pages same all = record {
    clean = λ none. same-clean (all.clean none);
    rests = λ page within none. same-rests_at pages page (all.rests page within none);
    writes = λ page write current.
        same-under_way write (entry_text (entry_at pages.texts page)) (record { sequence = (entry_at pages.texts page).stable; content = bytes_of_page pages page }) same (all.writes page write current);
  }

  same-log_fits : (stage : RecoveryPhase) (log : ℕ) → LogFits a stage log old → LogFits a stage log new
  same-log_fits (Syncing synced) log fits = λ less. same-clean (fits less)
  same-log_fits (Reading r) log fits = same-its_words r.kept.logs.items log fits
  same-log_fits (WritingPages w) log fits = same-words (slice_index_or w.kept.logs.items log []) fits
  same-log_fits (Resetting r) log fits = same-log_is r log fits
  same-log_fits (Done f) log fits = same-emptied fits

  same-segment_fits : (g : Geometry) (stage : RecoveryPhase) (s : ℕ) → a.honest new ≡ a.honest old → SegmentFits a g stage s old → SegmentFits a g stage s new
  same-segment_fits g (Syncing synced) s same fits = λ less. same-clean (fits less)
  same-segment_fits g (Reading r) s same fits = same-its_pages g r.kept.segments.items s fits
  same-segment_fits g (WritingPages w) s same fits = λ pages is. same-writes g w s pages same (fits pages is)
  same-segment_fits g (Resetting r) s same fits = λ pages is. same-rests g pages (fits pages is)
  same-segment_fits g (Done f) s same fits = λ pages is. same-rests g pages (fits pages is)

-- an area that was read fits as before
pub same-fits : {D : Type 0} (a : Ghosts D) (g : Geometry) (stage : RecoveryPhase) (k : ℕ) (old new : D) → a.honest new ≡ a.honest old → length (a.now new) ≡ length (a.now old)
    → (a.honest old ≡ true → a.now new ≡ a.now old) → (a.honest old ≡ true → (p : ℕ) → a.dirty new p ≡ a.dirty old p) → AreaFits a g stage k old → AreaFits a g stage k new
same-fits a g stage k old new same len now dirty fits = record {
  len = ap Some len ∙ fits.len;
  bytes = λ honest. subst (λ (bytes : List ℕ). (at : ℕ) → slice_index_or bytes at 0 < 256) (sym (now (sym same ∙ honest))) (fits.bytes (sym same ∙ honest));
  log = λ honest less.
      let was : a.honest old ≡ true = sym same ∙ honest in
      same-log_fits a old new (now was) (same-functions (a.dirty new) (a.dirty old) (dirty was)) stage k (fits.log was less);
  segment = λ honest more.
      let was : a.honest old ≡ true = sym same ∙ honest in
      same-segment_fits a old new (now was) (same-functions (a.dirty new) (a.dirty old) (dirty was)) g stage (k - g.nodes) same (fits.segment was more);
}

pub same-areas-fit : {D : Type 0} (a : Ghosts D) (g : Geometry) (stage : RecoveryPhase) (areas : List D) (k : ℕ) (old new : D) → slice_get areas k ≡ Some old
    → a.honest new ≡ a.honest old → length (a.now new) ≡ length (a.now old)
    → (a.honest old ≡ true → a.now new ≡ a.now old) → (a.honest old ≡ true → (p : ℕ) → a.dirty new p ≡ a.dirty old p)
    → AreasFit a g stage areas → AreasFit a g stage (slice_set areas k new)
same-areas-fit a g stage areas k old new was same len now dirty fits =
    fits-set a g areas k old new was stage stage fits (λ j area differ is known. known) (same-fits a g stage k old new same len now dirty (fits.each k old was))

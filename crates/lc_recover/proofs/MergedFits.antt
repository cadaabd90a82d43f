-- Areas that were read fit what a merge of them has made.
use Rattle.std.proofs.Common.{◌≡◌, ℕ, ◌+◌, ◌-◌, ◌*◌, ◌<◌, ◌≤◌, true, Some, List, [], length, drop, sym, ◌∙◌, ap, subst, arith}
use Rattle.std.specs.Prelude.{slice_get, slice_index_or}
use Rattle.std.proofs.Math.Numerals.{add-one}
use Rattle.std.proofs.lemmas.Option.{none-some, slice_get_within, get_or_from_slice_get}
use Rattle.lc_disk.specs.declared.area.Area.{Ghosts}
use Rattle.lc_record.specs.Content.{segment_of}
use Rattle.lc_record.specs.declared.geometry.Geometry.{Geometry}
use Rattle.lc_record.proofs.ListLemmas.{slice_get_some as get-some}
use Rattle.lc_page.specs.Page.{slot_at}
use Rattle.lc_page.specs.PageVector.{entry_text}
use Rattle.lc_page.specs.PageWrite.{IsSettled}
use Rattle.lc_page.specs.declared.page_text.PageText.{PageText}
use Rattle.lc_page.proofs.StateLemmas.{clean_settled}
use Rattle.lc_model.specs.Merge.{StoreText, MergesTo}
use Rattle.lc_recover.specs.Merging.{IsMergedFrom, IsMergedStage}
use Rattle.lc_recover.specs.Page.{pages_of}
use Rattle.lc_recover.specs.Pages.{AreKept}
use Rattle.lc_recover.specs.Reads.{area_count}
use Rattle.lc_recover.specs.Recovery.{AreBehind}
use Rattle.lc_recover.specs.RecoveryPhase.{AreasFit, HasItsPages, HasItsWords, ReadsWords, RestsOrWrites}
use Rattle.lc_recover.specs.Steps.{all_pages, pages_left}
use Rattle.lc_recover.specs.declared.store_contents.StoreContents.{StoreContents}
use Rattle.lc_recover.specs.declared.page_writes.PageWrites.{PageWrites}
use Rattle.lc_recover.specs.declared.read_areas.ReadAreas.{ReadAreas}
use Rattle.lc_recover.specs.declared.segment_pages.SegmentPages.{SegmentPages}
use Rattle.lc_recover.specs.declared.recovery_phase.RecoveryPhase.TheVariants.{Reading, Writing as WritingPages}
use Rattle.lc_recover.proofs.Images.{in-segment}
use Rattle.lc_recover.proofs.MergeRead.{kept-pages-are}
use Rattle.lc_recover.proofs.PagesBehind.{pages-behind, few-pages}

module _ (g : Geometry) (read : List (List ℕ)) (w : PageWrites) (from : IsMergedFrom g read w) where
  -- no page is written yet
  all-are : all_pages w ≡ length (pages_of w.merged.changes.items)
  all-are = omega (arith, from.written, ap (λ (n : ℕ). length (pages_of (drop n w.merged.changes.items))) from.next)

  all-left : all_pages w ≡ length (pages_left (WritingPages w))
  all-left = omega (arith, from.written)

  pub merged-stage : length read ≡ area_count g → IsMergedStage g read (WritingPages w)
  merged-stage count = record {
    content = from.sound.content;
    numbers = from.sound.numbers;
    merges = subst (λ (store : StoreText). MergesTo store from.sound.content from.sound.numbers) from.same_store from.sound.result.merges;
    pages = ap Some all-left;
    kept = sym (kept-pages-are g read w.kept from.kept count);
    behind = subst (λ (store : StoreText). AreBehind store (pages_left (WritingPages w))) from.same_store
        (subst (λ (n : ℕ). AreBehind from.sound.store (pages_of (drop n w.merged.changes.items))) (sym from.next) (pages-behind w.kept.logs.items from.sound.store w.merged from.sound.merging));
  }

  pub merged-few : all_pages w ≤ g.segments * g.pages
  merged-few =
      let few : length (pages_of w.merged.changes.items) ≤ g.segments * g.pages =
      few-pages w.kept.logs.items from.sound.store w.merged g.segments g.pages from.sound.merging from.sound.pages.shape (λ segment page text is.
      let found = in-segment segment page from.sound.store.pages text is in
      let known : found.before < g.segments = omega (arith, slice_get_within from.sound.store.pages found.before found.part found.part_is, from.sound.pages.shape) in
      let here : segment ≡ found.before + 1 = found.next ∙ sym (add-one found.before) in
      let long : length (segment_of segment from.sound.store.pages) ≡ g.pages = ap (λ (s : ℕ). length (segment_of s from.sound.store.pages)) here ∙ from.sound.pages.shapes found.before known in
      omega (arith, slice_get_within (segment_of segment from.sound.store.pages) page text is, long)) in
      subst (λ (n : ℕ). n ≤ g.segments * g.pages) (sym all-are) few

  module _ {D : Type 0} (a : Ghosts D) (areas : List D) (r : ReadAreas) (fits : AreasFit a g (Reading r) areas) (same : w.kept ≡ r.kept) where
    its-words : (log : ℕ) (area : D) → log < g.nodes → slice_get areas log ≡ Some area → a.honest area ≡ true → ReadsWords a (slice_index_or w.kept.logs.items log []) area
    its-words log area less is honest =
        let its : HasItsWords a r.kept.logs.items log area = (fits.each log area is).log honest less in
        let words = get-some w.kept.logs.items log (omega (arith, less, from.sound.texts.count)) in
        record {
          clean = its.clean;
          words_are = sym (get_or_from_slice_get w.kept.logs.items log words.0 [] words.1
              ∙ its.words_are words.0 (ap (λ (k : StoreContents). slice_get k.logs.items log) (sym same) ∙ words.1));
        }

    its-rests : (s : ℕ) (area : D) (pages : SegmentPages) → HasItsPages a g r.kept.segments.items s area → slice_get w.kept.segments.items s ≡ Some pages → RestsOrWrites a g w s pages area
    its-rests s area pages its pages_is =
        let kept : AreKept (a.now area) g.pages pages = its.pages_are pages (ap (λ (k : StoreContents). slice_get k.segments.items s) (sym same) ∙ pages_is) in
        record {
          clean = λ none. its.clean;
          rests = λ page within none. record {
            settled = subst (λ (text : PageText). IsSettled (a.now area) (a.dirty area) page text) (sym (ap entry_text (kept.entries page within)))
                (clean_settled (a.now area) (a.dirty area) page (λ slot k less. its.clean (slot_at page slot + k)));
            content = sym (kept.bytes page within);
          };
          writes = λ page write current. absurd (none-some write (sym from.current ∙ current.0));
        }

    pub merged-fit : AreasFit a g (WritingPages w) areas
    merged-fit = record {
      count = fits.count;
      each = λ k area is.
          let its = fits.each k area is in
          record {
            len = its.len;
            bytes = its.bytes;
            log = λ honest less. its-words k area less is honest;
            segment = λ honest more pages pages_is. its-rests (k - g.nodes) area pages (its.segment honest more) pages_is;
          };
    }

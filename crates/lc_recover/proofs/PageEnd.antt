-- After the last page that is written.
use Rattle.std.proofs.Common.{◌≡◌, ◌⊎◌, ℕ, ◌+◌, ◌-◌, ◌*◌, false, Option, Some, None, List, [], ◌++◌, length, drop, Contains, refl, sym, ◌∙◌, ap, subst, arith, inl, inr}
use Rattle.std.specs.Prelude.{slice_get, slice_index_or, if◌then◌else◌, IfOk, IsTrue, Result}
use Rattle.std.proofs.lemmas.List.{drop_all, length-append, nil_from_length as empty_list, append-nil as append_nothing}
use Rattle.std.proofs.lemmas.List.Elements.{All-contains}
use Rattle.std.proofs.lemmas.Option.{none-some, slice_get_within, same_Some as one_item}
use Rattle.std.proofs.lemmas.Result.{IfOk-weaker}
use Rattle.lc_disk.specs.declared.area.Area.{Ghosts}
use Rattle.lc_record.specs.Content.{segment_of}
use Rattle.lc_record.specs.Newest.{has_byte}
use Rattle.lc_record.specs.declared.geometry.Geometry.{Geometry}
use Rattle.lc_page.specs.PageVector.{entry_at}
use Rattle.lc_page.specs.declared.page_entry.PageEntry.{PageEntry}
use Rattle.lc_page.specs.declared.writing.Writing.{Writing}
use Rattle.lc_model.specs.Merge.{Page, StoreText, all_records}
use Rattle.lc_model.specs.Recovered.{IsBehind}
use Rattle.lc_model.proofs.Visible.{in-logs, log-known}
use Rattle.lc_recover.proofs.MergedPage.{change_has}
use Rattle.lc_recover.specs.StoreContents.{IsChange, IsIndex}
use Rattle.lc_recover.specs.Page.{IsOf, pages_of}
use Rattle.lc_recover.specs.Pages.{bytes_of_page}
use Rattle.lc_recover.specs.Position.{HasChange}
use Rattle.lc_recover.specs.RecoveryPhase.{AreTexts, AreasFit, AsFarAs, IsCurrent, IsNew, IsOld, IsResetting, IsWhole, IsWriting, ReadsWords, RestsOrWrites}
use Rattle.lc_recover.specs.Steps.{all_pages, writes_done, calls_done, steps_of}
use Rattle.lc_recover.specs.declared.redo_range.RedoRange.{RedoRange}
use Rattle.lc_recover.specs.declared.log_resets.LogResets.{LogResets}
use Rattle.lc_recover.specs.declared.page_writes.PageWrites.{PageWrites}
use Rattle.lc_recover.specs.declared.recovery_phase.RecoveryPhase.{RecoveryPhase}
use Rattle.lc_recover.specs.declared.recovery_phase.RecoveryPhase.TheVariants.{Writing as WritingPages, Resetting}

-- A page is behind just where a change is of it

module _ (logs : List (List ℕ)) (store : StoreText) (changes : List RedoRange) (index : IsIndex logs store changes) (segment page : ℕ) (text : Page)
    (text_is : slice_get (segment_of segment store.pages) page ≡ Some text) where
  change-behind : (c : RedoRange) → IsChange logs store c → IsOf segment page c → IsBehind store segment page text
  change-behind c is of =
      let among : Contains (all_records store) is.changing = in-logs store.logs c.log is.changing (log-known store.logs c.log is.changing is.among) is.among in
      let there : slice_get (segment_of segment store.pages) page ≡ Some is.text =
      subst (λ (s : ℕ). slice_get (segment_of s store.pages) page ≡ Some is.text) of.0 (subst (λ (p : ℕ). slice_get (segment_of c.segment store.pages) p ≡ Some is.text) of.1 is.page) in
      let same : is.text ≡ text = one_item is.text text (sym there ∙ text_is) in
      let has : IsTrue (has_byte segment (page * 256 + is.offset) text.sequence is.changing) =
      subst (λ (t : Page). IsTrue (has_byte segment (page * 256 + is.offset) t.sequence is.changing)) same
      (subst (λ (p : ℕ). IsTrue (has_byte segment (p * 256 + is.offset) is.text.sequence is.changing)) of.1
      (subst (λ (s : ℕ). IsTrue (has_byte s (c.page * 256 + is.offset) is.text.sequence is.changing)) of.0 (change_has logs store c is))) in
      (is.changing, among, is.offset, is.on_page, has)

  changed-behind : HasChange changes segment page → IsBehind store segment page text
  changed-behind has = change-behind has.0 (All-contains (IsChange logs store) changes has.0 index.sound has.1) has.2

  behind-changed : IsBehind store segment page text → HasChange changes segment page
  behind-changed behind =
      let one = index.whole segment page behind.2 text behind.0 text_is behind.1 behind.3 behind.4 in
      (one.0, one.1, (one.2, one.3))

-- After the last page

module _ (g : Geometry) (w : PageWrites) (i : IsWriting g w) (end : w.next ≡ length w.merged.changes.items) where
  back-empty : i.between.back ≡ []
  back-empty =
      let all : length w.merged.changes.items ≡ length i.between.front + length i.between.back = ap (λ (l : List RedoRange). length l) i.between.all ∙ length-append i.between.front i.between.back in
      empty_list i.between.back (omega (arith, all, i.between.count, end))

  front-all : i.between.front ≡ w.merged.changes.items
  front-all = sym (i.between.all ∙ ap (λ (l : List RedoRange). i.between.front ++ l) back-empty ∙ append_nothing i.between.front)

  -- no page is being written
  none-drafted : (o : Option Writing) → w.current ≡ o → o ≡ None
  none-drafted None is = refl
  none-drafted (Some write) is =
      let d = i.drafts write is in
      absurd (omega (arith, slice_get_within w.merged.changes.items w.next d.0 d.1, end))

  pub none-current : w.current ≡ None
  none-current = none-drafted w.current refl

  pub end-done : writes_done w ≡ 6 * w.written
  end-done =
      let none : calls_done w.current ≡ 0 = ap calls_done none-current in
      omega (arith, none)

  pub end-pages : all_pages w ≡ w.written
  end-pages =
      let none : length (pages_of (drop w.next w.merged.changes.items)) ≡ 0 = ap (λ (l : List RedoRange). length (pages_of l)) (drop_all w.next w.merged.changes.items (omega (arith, end))) in
      omega (arith, none)

  each-end : (segment page : ℕ) (text : Page) (entry : PageEntry) (bytes : List ℕ) → slice_get (segment_of segment i.store.pages) page ≡ Some text
      → AsFarAs i.between.front i.content i.numbers segment page text entry bytes
      → (IsBehind i.store segment page text × IsNew i.content i.numbers segment page entry bytes) ⊎ ((IsBehind i.store segment page text → ⊥) × IsOld text entry bytes)
  each-end segment page text entry bytes is far =
      let all : AsFarAs w.merged.changes.items i.content i.numbers segment page text entry bytes =
      subst (λ (l : List RedoRange). AsFarAs l i.content i.numbers segment page text entry bytes) front-all far in
      elim all [
        | inl new ↦ inl (changed-behind w.kept.logs.items i.store w.merged.changes.items i.merging.index segment page text is new.0, new.1)
        | inr old ↦ inr ((λ behind. old.0 (behind-changed w.kept.logs.items i.store w.merged.changes.items i.merging.index segment page text is behind)), old.1)
      ]

  pub writes-whole : IsWhole g w.kept.segments.items w.merged.numbers.items i.store
  writes-whole = record {
    content = i.content;
    numbers = i.numbers;
    result = i.result;
    pages = record {
      count = i.pages.count;
      entries = i.pages.entries;
      bytes = i.pages.bytes;
      shape = i.pages.shape;
      shapes = i.pages.shapes;
      each = λ s page pages text pages_is text_is.
          each-end (s + 1) page text (entry_at pages.texts page) (bytes_of_page pages page) text_is (i.pages.each s page pages text pages_is text_is);
    };
  }

  module _ (r : LogResets) (logs : r.logs ≡ w.kept.logs) (segments : r.segments ≡ w.kept.segments) (numbers : r.numbers ≡ w.merged.numbers) (next : r.next ≡ 0) where
    -- the logs are to be emptied
    pub writes-end : IsResetting g r
    writes-end = record {
      store = i.store;
      texts = subst (λ (l : _). AreTexts g l.items i.store) (sym logs) i.texts;
      whole = subst (λ (l : _). IsWhole g r.segments.items l.items i.store) (sym numbers) (subst (λ (l : _). IsWhole g l.items w.merged.numbers.items i.store) (sym segments) writes-whole);
      next = omega (arith, next);
    }

    pub writes-rest : {D : Type 0} (a : Ghosts D) (areas : List D) → r.is_closing ≡ false → AreasFit a g (WritingPages w) areas → AreasFit a g (Resetting r) areas
    writes-rest a areas at_rest fits =
        let none : (s page : ℕ) (write : Writing) → IsCurrent w (s + 1) page write → ⊥ = λ s page write is. none-some write (sym none-current ∙ is.0) in
        record {
          count = fits.count;
          each = λ k area is.
              let its = fits.each k area is in
              record {
                len = its.len;
                bytes = its.bytes;
                log = λ alive less. inr (inr (omega (arith, next), (λ same. at_rest), subst (λ (l : _). ReadsWords a (slice_index_or l.items k []) area) (sym logs) (its.log alive less)));
                segment = λ alive more pages pages_is.
                    (let rests : RestsOrWrites a g w (k - g.nodes) pages area = its.segment alive more pages (ap (λ l. slice_get l.items (k - g.nodes)) (sym segments) ∙ pages_is) in
                    record {
                      clean = rests.clean (none (k - g.nodes));
                      rests = λ page within. rests.rests page within (none (k - g.nodes) page);
                    });
              };
        }

  -- one step more is done than of the page writes
  pub end-steps : {B : Type 0} (r : LogResets) → r.written ≡ w.written → r.next ≡ 0 → r.is_closing ≡ false → (result : Result RecoveryPhase B)
      → IfOk result (λ stage. steps_of g stage ≡ steps_of g (Resetting r) + 1) → IfOk result (λ stage. steps_of g stage ≡ steps_of g (WritingPages w) + 1)
  end-steps r written next at_rest result steps =
      let closing : ◌≡◌ {A = ℕ} (if r.is_closing then 1 else 0) 0 = ap (λ b. if b then 1 else 0) at_rest in
      let same : steps_of g (Resetting r) + 1 ≡ steps_of g (WritingPages w) + 1 = omega (arith, closing, written, next, end-done) in
      IfOk-weaker result (λ stage. steps_of g stage ≡ steps_of g (Resetting r) + 1) (λ stage. steps_of g stage ≡ steps_of g (WritingPages w) + 1) (λ stage is. is ∙ same) steps

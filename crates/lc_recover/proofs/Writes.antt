-- What is known of the areas while a page is written.
use Rattle.std.proofs.Common.{◌≡◌, ◌≢◌, ◌⊎◌, ℕ, ◌+◌, ◌-◌, ◌*◌, ◌<◌, ◌≤◌, true, false, Option, Some, None, List, [], length, take, drop, true≢false, refl, sym, ◌∙◌, ap, subst, arith, inl, inr}
use Rattle.std.specs.Prelude.{slice_get, slice_set, slice_index_or}
use Rattle.std.specs.Option.{is_some}
use Rattle.std.proofs.lemmas.Bool.{cases_eq}
use Rattle.std.proofs.lemmas.List.Elements.{All-contains}
use Rattle.std.proofs.lemmas.Option.{none-some, slice_get_within, get_or_from_slice_get, same_Some as one_item}
use Rattle.lc_disk.specs.Area.{IsClean, IsImage, overlaid}
use Rattle.lc_disk.specs.declared.area.Area.{Ghosts}
use Rattle.lc_record.specs.Content.{segment_of}
use Rattle.lc_record.specs.declared.geometry.Geometry.{Geometry}
use Rattle.lc_record.proofs.ListLemmas.{slice_get_some as get-some}
use Rattle.lc_page.specs.Page.{Page, page_in, text_in}
use Rattle.lc_page.specs.PageVector.{entry_at, entry_text, settled, settled_text}
use Rattle.lc_page.specs.PageWrite.{KeepsPage, HasPage, IsEither, IsSettled, drafted}
use Rattle.lc_page.specs.Writing.{draft_of, IsNextOf, IsUnderWay, GoesOn, IsOver}
use Rattle.lc_page.specs.declared.page_text.PageText.{PageText}
use Rattle.lc_page.specs.declared.draft.Draft.{Draft}
use Rattle.lc_page.specs.declared.page_entry.PageEntry.{PageEntry}
use Rattle.lc_page.specs.declared.writing.Writing.{Writing}
use Rattle.lc_page.proofs.StateLemmas.{settled_reads, kept_settled, kept_page}
use Rattle.lc_recover.proofs.AreaLemmas.{set-get, set-others, get-set, fits-set, begins}
use Rattle.lc_model.specs.Merge.{Page as StorePage}
use Rattle.lc_model.specs.Stored.{page_bytes}
use Rattle.lc_recover.proofs.Bridge.{same_page as same_stored}
use Rattle.lc_recover.proofs.Showing.{rests-as, kept-or_new, writing-shows}
use Rattle.lc_recover.proofs.Images.{in-segment, len-segment}
use Rattle.lc_recover.proofs.Settles.{page_over, page_beside, entry_set, entry_other}
use Rattle.lc_recover.specs.StoreContents.{IsChange}
use Rattle.lc_recover.specs.Pages.{bytes_of_page, page_read, kept_page as page_kept}
use Rattle.lc_recover.specs.Reads.{AreHonest}
use Rattle.lc_recover.specs.Shows.{ShowPages, new_page}
use Rattle.lc_recover.specs.RecoveryPhase.{AreaFits, AreasFit, ReadsWords, RestsAt, RestsOrWrites, IsCurrent, IsDraft, IsNext, IsWriting}
use Rattle.lc_recover.specs.declared.redo_range.RedoRange.{RedoRange}
use Rattle.lc_recover.specs.declared.page_writes.PageWrites.{PageWrites}
use Rattle.lc_recover.specs.declared.segment_pages.SegmentPages.{SegmentPages}
use Rattle.lc_recover.specs.declared.recovery_phase.RecoveryPhase.TheVariants.{Writing as WritingPages, Syncing}

-- the change that comes next, of a page of the store
pub record Next (g : Geometry) (w : PageWrites) : Type 0 where
  pub its : RedoRange
  pub pages : SegmentPages
  pub is : IsNext w its pages
  pub known : its.segment ≤ g.segments
  pub within : its.page < g.pages

pub next-of : (g : Geometry) (w : PageWrites) → IsWriting g w → w.next < length w.merged.changes.items → Next g w
next-of g w i left =
    let c = get-some w.merged.changes.items w.next left in
    let change : IsChange w.kept.logs.items i.store c.0 = All-contains (IsChange w.kept.logs.items i.store) w.merged.changes.items c.0 i.merging.index.sound (w.next, left, get_or_from_slice_get w.merged.changes.items w.next c.0 _ c.1) in
    let found = in-segment c.0.segment c.0.page i.store.pages change.text change.page in
    let known : found.before < g.segments = omega (arith, slice_get_within i.store.pages found.before found.part found.part_is, i.pages.shape) in
    let here : c.0.segment ≡ found.before + 1 = omega (arith, found.next) in
    let pages = get-some w.kept.segments.items (c.0.segment - 1) (omega (arith, here, known, i.pages.count)) in
    let same : length (segment_of c.0.segment i.store.pages) ≡ length (segment_of (found.before + 1) i.store.pages) = ap (λ (n : ℕ). length (segment_of n i.store.pages)) here in
    record {
      its = c.0;
      pages = pages.0;
      is = record { change = c.1; segment = omega (arith, here); kept = pages.1 };
      known = omega (arith, here, known);
      within = omega (arith, slice_get_within (segment_of c.0.segment i.store.pages) c.0.page change.text change.page, same, i.pages.shapes found.before known);
    }

-- the write of the next page may be any of this draft
pub with-current : (g : Geometry) (w : PageWrites) (i : IsWriting g w) (o : Option Writing)
    → ((write : Writing) → o ≡ Some write → (c : RedoRange) × (slice_get w.merged.changes.items w.next ≡ Some c) × IsDraft i.content i.numbers c (draft_of write)) → IsWriting g (record w { current = o })
with-current g w i o drafts = record {
  store = i.store;
  content = i.content;
  numbers = i.numbers;
  texts = i.texts;
  merging = i.merging;
  result = i.result;
  between = i.between;
  few = i.few;
  pages = i.pages;
  drafts = drafts;
}

-- nothing is written of the next page yet, or no more, and this is its draft
pub with-none : (g : Geometry) (w : PageWrites) (i : IsWriting g w) (o : Option Writing) → o ≡ None → (draft : Draft)
    → ((c : RedoRange) → slice_get w.merged.changes.items w.next ≡ Some c → IsDraft i.content i.numbers c draft)
    → (later : IsWriting g (record w { current = o })) × ((c : RedoRange) (pages : SegmentPages) → IsNext (record w { current = o }) c pages → IsDraft later.content later.numbers c draft)
unfolding with-current
with-none g w i o none draft drafted =
    (with-current g w i o (λ other is. absurd (none-some other (sym none ∙ is))), λ c pages is. drafted c is.change)

-- a page as it is kept
abbrev pub as_kept : SegmentPages → ℕ → Page
as_kept pages page = record { sequence = (entry_at pages.texts page).stable; content = bytes_of_page pages page }

same_page : (p q : Page) → p.sequence ≡ q.sequence → p.content ≡ q.content → p ≡ q
same_page p q sequence content =
    ap (λ (n : ℕ). let x : Page = record { sequence = n; content = p.content } in x) sequence
    ∙ ap (λ (l : List ℕ). let x : Page = record { sequence = q.sequence; content = l } in x) content

module _ {D : Type 0} (a : Ghosts D) where
  pub reads-kept : (pages : SegmentPages) (area : D) (page : ℕ) → ((k : ℕ) → slice_index_or (a.now area) k 0 < 256) → RestsAt a pages area page → page_in (a.now area) page ≡ as_kept pages page
  reads-kept pages area page fits rests =
      let text : text_in (a.now area) page ≡ entry_text (entry_at pages.texts page) = settled_reads (a.now area) (a.dirty area) page (entry_text (entry_at pages.texts page)) fits rests.settled in
      same_page (page_in (a.now area) page) (as_kept pages page) (ap (λ (t : PageText). t.seq) text) rests.content

  pub keeps-rest : (pages : SegmentPages) (old new : D) (page : ℕ) → KeepsPage a page old new → a.honest old ≡ true → RestsAt a pages old page → RestsAt a pages new page
  keeps-rest pages old new page keeps honest rests = record {
    settled = kept_settled (a.now old) (a.now new) (a.dirty old) (a.dirty new) page (entry_text (entry_at pages.texts page)) (keeps.inside honest) rests.settled;
    content = ap (λ (p : Page). p.content) (kept_page page (a.now old) (a.now new) (a.dirty old) (a.dirty new) (keeps.inside honest)).0 ∙ rests.content;
  }

  module _ (g : Geometry) (w : PageWrites) (areas : List D) (k : ℕ) (old new : D) (was : slice_get areas k ≡ Some old) (fits : AreasFit a g (WritingPages w) areas) (honest : a.honest new ≡ a.honest old) (len : length (a.now new) ≡ length (a.now old)) (bytes : a.honest new ≡ true → (at : ℕ) → slice_index_or (a.now new) at 0 < 256) where
    pub write-begins : AreasFit a g (Syncing 0) (slice_set areas k new)
    write-begins =
        fits-set a g areas k old new was (Syncing 0) (Syncing 0) (begins a g (WritingPages w) areas fits) (λ j area differ is f. f) (record {
          len = ap Some len ∙ (fits.each k old was).len;
          bytes = bytes;
          log = λ alive less none. absurd (omega (arith, none));
          segment = λ alive more none. absurd (omega (arith, none));
        })

    module _ (c : RedoRange) (pages : SegmentPages) (next : IsNext w c pages) (here : k + 1 ≡ g.nodes + c.segment) where
      -- the segment is the only one of which a page may be written
      not-elsewhere : (o : Option Writing) (s : ℕ) → s + 1 ≢ c.segment → (page : ℕ) (write : Writing) → IsCurrent (record w { current = o }) (s + 1) page write → ⊥
      not-elsewhere o s differ page write is = differ (sym is.1.2 ∙ ap (λ (d : RedoRange). d.segment) (one_item is.1.0 c (sym is.1.1 ∙ next.change)))

      pub rests-of : (page : ℕ) → page < g.pages → a.honest old ≡ true → ((write : Writing) → IsCurrent w c.segment page write → ⊥) → RestsAt a pages old page
      rests-of page within alive none =
          let s : k - g.nodes ≡ c.segment - 1 = omega (arith, here, next.segment) in
          let back : (c.segment - 1) + 1 ≡ c.segment = omega (arith, next.segment) in
          let rests : RestsOrWrites a g w (c.segment - 1) pages old =
          subst (λ (n : ℕ). (p : SegmentPages) → slice_get w.kept.segments.items n ≡ Some p → RestsOrWrites a g w n p old) s ((fits.each k old was).segment alive (omega (arith, here, next.segment))) pages next.kept in
          rests.rests page within (λ write is. none write (subst (λ (n : ℕ). IsCurrent w n page write) back is))

      pub current-of : (page : ℕ) (write : Writing) → a.honest old ≡ true → IsCurrent w c.segment page write → IsUnderWay a old write (entry_text (entry_at pages.texts page)) (as_kept pages page)
      current-of page write alive is =
          let s : k - g.nodes ≡ c.segment - 1 = omega (arith, here, next.segment) in
          let back : c.segment ≡ (c.segment - 1) + 1 = omega (arith, next.segment) in
          let rests : RestsOrWrites a g w (c.segment - 1) pages old =
          subst (λ (n : ℕ). (p : SegmentPages) → slice_get w.kept.segments.items n ≡ Some p → RestsOrWrites a g w n p old) s ((fits.each k old was).segment alive (omega (arith, here, next.segment))) pages next.kept in
          rests.writes page write (subst (λ (n : ℕ). IsCurrent w n page write) back is)

      -- the areas after a call of a page of the segment
      pub write-fits : (later : PageWrites) → later.kept.logs.items ≡ w.kept.logs.items
          → ((s : ℕ) → s + 1 ≢ c.segment → (p : SegmentPages) → slice_get later.kept.segments.items s ≡ Some p → slice_get w.kept.segments.items s ≡ Some p)
          → ((s : ℕ) → s + 1 ≢ c.segment → (page : ℕ) (write : Writing) → IsCurrent later (s + 1) page write → ⊥)
          → (a.honest new ≡ true → (p : SegmentPages) → slice_get later.kept.segments.items (c.segment - 1) ≡ Some p → RestsOrWrites a g later (c.segment - 1) p new)
          → AreasFit a g (WritingPages later) (slice_set areas k new)
      write-fits later logs same elsewhere own =
          fits-set a g areas k old new was (WritingPages w) (WritingPages later) fits
          (λ j area differ is f. record {
            len = f.len;
            bytes = f.bytes;
            log = λ alive less. subst (λ (ls : List (List ℕ)). ReadsWords a (slice_index_or ls j []) area) (sym logs) (f.log alive less);
            segment = λ alive more p p_is.
                (let s_differ : (j - g.nodes) + 1 ≢ c.segment = λ alike. differ (omega (arith, alike, here, more, next.segment)) in
                let rests : RestsOrWrites a g w (j - g.nodes) p area = f.segment alive more p (same (j - g.nodes) s_differ p p_is) in
                record {
                  clean = λ none. rests.clean (not-elsewhere w.current (j - g.nodes) s_differ);
                  rests = λ page within none. rests.rests page within (not-elsewhere w.current (j - g.nodes) s_differ page);
                  writes = λ page write current. absurd (elsewhere (j - g.nodes) s_differ page write current);
                });
          })
          (record {
            len = ap Some len ∙ (fits.each k old was).len;
            bytes = bytes;
            log = λ alive less. absurd (omega (arith, less, here, next.segment));
            segment = λ alive more.
                (let s : c.segment - 1 ≡ k - g.nodes = omega (arith, here, next.segment) in
                subst (λ (n : ℕ). (p : SegmentPages) → slice_get later.kept.segments.items n ≡ Some p → RestsOrWrites a g later n p new) s (own alive));
          })

      -- the next page is under way, and the others are kept
      pub current-fits : (write : Writing) → (draft_of write).page ≡ c.page
          → ((page : ℕ) → page ≢ c.page → KeepsPage a page old new)
          → ((page : ℕ) → page < g.pages → page ≢ c.page → a.honest old ≡ true → RestsAt a pages old page)
          → (a.honest new ≡ true → IsUnderWay a new write (entry_text (entry_at pages.texts c.page)) (as_kept pages c.page))
          → AreasFit a g (WritingPages (record w { current = Some write })) (slice_set areas k new)
      current-fits write at others rests under =
          let back : c.segment ≡ (c.segment - 1) + 1 = omega (arith, next.segment) in
          write-fits (record w { current = Some write }) refl (λ s differ p p_is. p_is) (not-elsewhere (Some write)) (λ alive p p_is.
          (let alive_before : a.honest old ≡ true = sym honest ∙ alive in
          subst (λ (x : SegmentPages). RestsOrWrites a g (record w { current = Some write }) (c.segment - 1) x new) (one_item pages p (sym next.kept ∙ p_is)) (record {
            clean = λ none. absurd (none c.page write (refl, (c, next.change, back), at));
            rests = λ page within none.
                (let differ : page ≢ c.page = λ alike. none write (refl, (c, next.change, back), at ∙ sym alike) in
                keeps-rest pages old new page (others page differ) alive_before (rests page within differ alive_before));
            writes = λ page other is.
                (let same : write ≡ other = one_item write other is.0 in
                let page_is : c.page ≡ page = sym at ∙ ap (λ (x : Writing). (draft_of x).page) same ∙ is.2 in
                subst (λ (n : ℕ). IsUnderWay a new other (entry_text (entry_at pages.texts n)) (as_kept pages n)) page_is
                (subst (λ (x : Writing). IsUnderWay a new x (entry_text (entry_at pages.texts c.page)) (as_kept pages c.page)) same (under alive)));
          })))

      -- a page that is under way goes on
      pub goes-on-fits : (write : Writing) → IsCurrent w c.segment c.page write
          → ((page : ℕ) → page ≢ c.page → KeepsPage a page old new)
          → (o : Option Writing) → IsNextOf write o
          → ((text : PageText) (p : Page) → IsUnderWay a old write text p → GoesOn a new (draft_of write) text p o)
          → (o ≡ None → ⊥) → AreasFit a g (WritingPages (record w { current = o })) (slice_set areas k new)
      goes-on-fits write is others None one on some = absurd (some refl)
      goes-on-fits write is others (Some x) one on some =
          current-fits x (ap (λ (d : Draft). d.page) one.0 ∙ is.2) others
          (λ page within differ alive. rests-of page within alive (λ other at. differ (sym at.2 ∙ ap (λ (y : Writing). (draft_of y).page) (one_item other write (sym at.0 ∙ is.0)) ∙ is.2)))
          (λ alive. on (entry_text (entry_at pages.texts c.page)) (as_kept pages c.page) (current-of c.page write (sym honest ∙ alive) is))

      -- a page whose write is over is as it is kept now, and the others are as before
      module _ (write : Writing) (is : IsCurrent w c.segment c.page write) (renewed : SegmentPages)
          (texts : renewed.texts ≡ slice_set pages.texts (draft_of write).page (settled (entry_at pages.texts (draft_of write).page) (draft_of write).seq))
          (kept : renewed.bytes.items ≡ overlaid pages.bytes.items ((draft_of write).page * 256) (draft_of write).bytes)
          (long : length (draft_of write).bytes ≡ 256) (entries : length pages.texts ≡ g.pages) (room : length pages.bytes.items ≡ g.pages * 256) (lies : c.page < g.pages) where
        entry-renewed : entry_at renewed.texts c.page ≡ settled (entry_at pages.texts c.page) (draft_of write).seq
        entry-renewed =
            ap (λ (l : List PageEntry). entry_at l c.page) texts
            ∙ subst (λ (p : ℕ). entry_at (slice_set pages.texts p (settled (entry_at pages.texts p) (draft_of write).seq)) c.page ≡ settled (entry_at pages.texts c.page) (draft_of write).seq) (sym is.2)
            (entry_set pages.texts c.page (settled (entry_at pages.texts c.page) (draft_of write).seq) _ (omega (arith, lies, entries)))

        bytes-renewed : bytes_of_page renewed c.page ≡ (draft_of write).bytes
        bytes-renewed =
            ap (λ (l : List ℕ). take 256 (drop (c.page * 256) l)) kept
            ∙ subst (λ (p : ℕ). take 256 (drop (p * 256) (overlaid pages.bytes.items ((draft_of write).page * 256) (draft_of write).bytes)) ≡ (draft_of write).bytes) is.2
            (page_over pages.bytes.items (draft_of write).bytes ((draft_of write).page * 256) long (omega (arith, is.2, lies, room)))

        over-own : a.honest new ≡ true → IsOver a new (draft_of write) (entry_text (entry_at pages.texts c.page)) → RestsAt a renewed new c.page
        over-own alive over = record {
          settled =
              subst (λ (e : PageEntry). IsSettled (a.now new) (a.dirty new) c.page (entry_text e)) (sym entry-renewed)
              (subst (λ (n : ℕ). IsSettled (a.now new) (a.dirty new) n (settled_text (entry_text (entry_at pages.texts c.page)) (draft_of write).seq)) is.2 (over.settled alive));
          content =
              ap (λ (n : ℕ). (page_in (a.now new) n).content) (sym is.2) ∙ ap (λ (q : Page). q.content) (over.page alive).reads ∙ sym bytes-renewed;
        }

        over-other : (page : ℕ) → page < g.pages → page ≢ c.page → RestsAt a pages new page → RestsAt a renewed new page
        over-other page within differ rests =
            let apart : page ≢ (draft_of write).page = λ same. differ (same ∙ is.2) in
            let entry : entry_at renewed.texts page ≡ entry_at pages.texts page =
            ap (λ (l : List PageEntry). entry_at l page) texts
            ∙ entry_other pages.texts (draft_of write).page (settled (entry_at pages.texts (draft_of write).page) (draft_of write).seq) _ page (omega (arith, within, entries)) apart in
            let beside : bytes_of_page renewed page ≡ bytes_of_page pages page =
            ap (λ (l : List ℕ). take 256 (drop (page * 256) l)) kept
            ∙ page_beside pages.bytes.items (draft_of write).bytes (draft_of write).page page long (omega (arith, is.2, lies, room)) apart in
            record {
              settled = subst (λ (e : PageEntry). IsSettled (a.now new) (a.dirty new) page (entry_text e)) (sym entry) rests.settled;
              content = rests.content ∙ sym beside;
            }

        -- and so are the areas
        pub over-fits : (later : PageWrites) → later.kept.logs.items ≡ w.kept.logs.items → later.kept.segments.items ≡ slice_set w.kept.segments.items (c.segment - 1) renewed → later.current ≡ None
            → ((page : ℕ) → page ≢ c.page → KeepsPage a page old new)
            → (a.honest old ≡ true → IsClean (a.dirty new))
            → (a.honest new ≡ true → IsOver a new (draft_of write) (entry_text (entry_at pages.texts c.page)))
            → AreasFit a g (WritingPages later) (slice_set areas k new)
        over-fits later logs segments none others clean over =
            write-fits later logs
            (λ s differ p p_is.
            elim (get-set w.kept.segments.items (c.segment - 1) renewed s p (ap (λ (l : List SegmentPages). slice_get l s) (sym segments) ∙ p_is)) [
              | inl own ↦ absurd (differ (omega (arith, own.0, next.segment)))
              | inr other ↦ other.1
            ])
            (λ s differ page other at. none-some other (sym none ∙ at.0))
            (λ alive p p_is.
            (let before : a.honest old ≡ true = sym honest ∙ alive in
            let same : renewed ≡ p = one_item renewed p (sym (set-get w.kept.segments.items (c.segment - 1) renewed pages next.kept) ∙ ap (λ (l : List SegmentPages). slice_get l (c.segment - 1)) (sym segments) ∙ p_is) in
            subst (λ (x : SegmentPages). RestsOrWrites a g later (c.segment - 1) x new) same (record {
              clean = λ gone. clean before;
              rests = λ page within gone.
                  elim (cases_eq page c.page) [
                    | inl here ↦ subst (λ (n : ℕ). RestsAt a renewed new n) (sym here) (over-own alive (over alive))
                    | inr differ ↦
                        over-other page within differ
                        (keeps-rest pages old new page (others page differ) before
                        (rests-of page within before (λ other at. differ (sym at.2 ∙ ap (λ (y : Writing). (draft_of y).page) (one_item other write (sym at.0 ∙ is.0)) ∙ is.2))))
                  ];
              writes = λ page other at. absurd (none-some other (sym none ∙ at.0));
            })))

pub segment-room : {D : Type 0} (a : Ghosts D) (g : Geometry) (w : PageWrites) (c : RedoRange) (k : ℕ) (area : D) → AreaFits a g (WritingPages w) k area → 1 ≤ c.segment → c.segment ≤ g.segments → k + 1 ≡ g.nodes + c.segment → length (a.now area) ≡ 2 * 272 * g.pages
segment-room a g w c k area fits some known here =
    one_item (length (a.now area)) (2 * 272 * g.pages) (fits.len ∙ len-segment g k (omega (arith, here, some)) (omega (arith, here, known)))

-- the next of its calls is of the same draft
pub same-draft : (write next : Writing) (o : Option Writing) → IsNextOf write o → o ≡ Some next → draft_of next ≡ draft_of write
same-draft write next None one is = absurd (none-some next is)
same-draft write next (Some x) one is = sym (ap draft_of (one_item x next is)) ∙ one.0

pub none-of : (o : Option Writing) → is_some o ≡ false → o ≡ None
none-of None is = refl
none-of (Some x) is = absurd (true≢false is)

pub some-of : (o : Option Writing) → is_some o ≡ true → o ≡ None → ⊥
some-of o some none = absurd (true≢false (sym some ∙ ap (λ (x : Option Writing). is_some x) none))

-- What a stop leaves after a call of a page

module _ {D : Type 0} (a : Ghosts D) (g : Geometry) (w : PageWrites) (areas : List D) (k : ℕ) (old new : D) (was : slice_get areas k ≡ Some old) (fits : AreasFit a g (WritingPages w) areas) (honest : a.honest new ≡ a.honest old) (len : length (a.now new) ≡ length (a.now old)) (bytes : a.honest new ≡ true → (at : ℕ) → slice_index_or (a.now new) at 0 < 256)
    (i : IsWriting g w) (c : RedoRange) (pages : SegmentPages) (next : IsNext w c pages) (here : k + 1 ≡ g.nodes + c.segment) (alive : AreHonest a (slice_set areas k new)) where
  honest-new : a.honest new ≡ true
  honest-new = alive k new (set-get areas k new old was)

  honest-old : a.honest old ≡ true
  honest-old = sym honest ∙ honest-new

  honest-before : AreHonest a areas
  honest-before j area is =
      elim (cases_eq j k) [
        | inl same ↦ ap (λ (x : D). a.honest x) (one_item area old (sym is ∙ ap (slice_get areas) same ∙ was)) ∙ honest-old
        | inr differ ↦ alive j area (set-others areas k new j area differ is)
      ]

  -- the page with its part of the result
  abbrev its_result : Page
  its_result = record { sequence = i.numbers c.segment; content = page_bytes c.segment c.page i.content }

  module _ (others : (page : ℕ) → page ≢ c.page → KeepsPage a page old new) (rests : (page : ℕ) → page < g.pages → page ≢ c.page → RestsAt a pages old page)
      (own : (image : List ℕ) → IsImage (a.now new) (a.dirty new) image → (page_in image c.page ≡ as_kept pages c.page) ⊎ (page_in image c.page ≡ its_result)) where
    called-page : (s page : ℕ) (text : StorePage) → g.nodes + s ≡ k → slice_get (segment_of (s + 1) i.store.pages) page ≡ Some text → (image : List ℕ) → IsImage (a.now new) (a.dirty new) image
        → (page_read image page ≡ text) ⊎ (page_read image page ≡ new_page i.content i.numbers (s + 1) page)
    called-page s page text at text_is image of =
        let before : c.segment - 1 ≡ s = omega (arith, at, here, next.segment) in
        let segment : c.segment ≡ s + 1 = omega (arith, at, here, next.segment) in
        let kept : slice_get w.kept.segments.items s ≡ Some pages = ap (λ (n : ℕ). slice_get w.kept.segments.items n) (sym before) ∙ next.kept in
        let known : s < g.segments = omega (arith, slice_get_within w.kept.segments.items s pages kept, i.pages.count) in
        let within : page < g.pages = omega (arith, slice_get_within (segment_of (s + 1) i.store.pages) page text text_is, i.pages.shapes s known) in
        elim (cases_eq page c.page) [
          | inl same ↦
              (elim (own image of) [
                | inl as_before ↦
                    let is : page_in image page ≡ as_kept pages page = subst (λ (n : ℕ). page_in image n ≡ as_kept pages n) (sym same) as_before in
                    kept-or_new a g w areas fits honest-before i s page pages text kept text_is (page_read image page)
                    (same_stored (page_read image page) (page_kept pages page) (ap (λ (p : Page). p.sequence) is) (ap (λ (p : Page). p.content) is))
                | inr as_result ↦
                    inr (subst (λ (n : ℕ). page_read image n ≡ new_page i.content i.numbers (s + 1) n) (sym same)
                    (subst (λ (n : ℕ). page_read image c.page ≡ new_page i.content i.numbers n c.page) segment
                    (same_stored (page_read image c.page) (new_page i.content i.numbers c.segment c.page) (ap (λ (p : Page). p.sequence) as_result) (ap (λ (p : Page). p.content) as_result))))
              ])
          | inr differ ↦
              kept-or_new a g w areas fits honest-before i s page pages text kept text_is (page_read image page)
              (rests-as a g pages new page (keeps-rest a pages old new page (others page differ) honest-old (rests page within differ)) image of)
        ]

    pub call-shows : ShowPages a g (slice_set areas k new) i.store i.content i.numbers
    call-shows =
        let shown : ShowPages a g areas i.store i.content i.numbers = writing-shows a g w areas fits honest-before i in
        record {
          logs = λ log area within is.
              elim (get-set areas k new log area is) [
                | inl same ↦ absurd (omega (arith, same.0, within, here, next.segment))
                | inr other ↦ shown.logs log area within other.1
              ];
          pages = λ s page area text is text_is own image of.
              elim (get-set areas k new (g.nodes + s) area is) [
                | inl same ↦ called-page s page text same.0 text_is image (subst (λ (x : D). IsImage (a.now x) (a.dirty x) image) same.1 of)
                | inr other ↦ shown.pages s page area text other.1 text_is own image of
              ];
        }

  -- of a page that goes on
  pub goes-on-shows : (write : Writing) → w.current ≡ Some write → ((page : ℕ) → page ≢ (draft_of write).page → KeepsPage a page old new)
      → ((text : PageText) (p : Page) → IsUnderWay a old write text p → HasPage a new (draft_of write).page (IsEither p (drafted (draft_of write))))
      → ShowPages a g (slice_set areas k new) i.store i.content i.numbers
  goes-on-shows write current others page =
      let d = i.drafts write current in
      let draft : IsDraft i.content i.numbers c (draft_of write) = subst (λ (x : RedoRange). IsDraft i.content i.numbers x (draft_of write)) (one_item d.0 c (sym d.1 ∙ next.change)) d.2 in
      let is : IsCurrent w c.segment c.page write = (current, (c, next.change, refl), draft.page) in
      call-shows
      (λ other differ. others other (λ same. differ (same ∙ draft.page)))
      (λ other within differ.
      rests-of a g w areas k old new was fits honest len bytes c pages next here other within honest-old
      (λ one at. differ (sym at.2 ∙ ap (λ (y : Writing). (draft_of y).page) (one_item one write (sym at.0 ∙ current)) ∙ draft.page)))
      (λ image of.
      elim ((page (entry_text (entry_at pages.texts c.page)) (as_kept pages c.page) (current-of a g w areas k old new was fits honest len bytes c pages next here c.page write honest-old is) honest-new).images image of) [
        | inl as_before ↦ inl (subst (λ (n : ℕ). page_in image n ≡ as_kept pages c.page) draft.page as_before)
        | inr written ↦ inr (subst (λ (n : ℕ). page_in image n ≡ drafted (draft_of write)) draft.page written ∙ same_page (drafted (draft_of write)) its_result draft.seq draft.bytes)
      ])

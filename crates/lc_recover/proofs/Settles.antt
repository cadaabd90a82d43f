-- A page that was written takes the place of the one before.
use Rattle.std.proofs.Common.{◌≡◌, ◌≢◌, ◌⊎◌, ℕ, zero, suc, ◌+◌, ◌-◌, ◌*◌, ◌<◌, ◌≤◌, List, [], ◌∷◌, ◌++◌, length, get_or, take, drop, Some, None, Contains, refl, sym, ◌∙◌, ap, subst, arith, inl, inr, append_assoc}
use Rattle.std.specs.Prelude.{slice_get, slice_set}
use Rattle.std.proofs.lemmas.Bool.{cases_lt}
use Rattle.std.proofs.lemmas.List.{drop_at, drop-drop, take_at, length-take, length-take-le, length-drop, length-append, length-set}
use Rattle.std.proofs.lemmas.List.Elements.{All-contains, Contains-append_left, Contains-append_right, Contains-append_cases}
use Rattle.std.proofs.lemmas.Option.{none-some, slice_get_within, slice_get_past, slice_get-get_or, get_or_from_slice_get}
use Rattle.lc_disk.specs.Area.{overlaid}
use Rattle.lc_record.specs.Content.{segment_of}
use Rattle.lc_record.specs.declared.geometry.Geometry.{Geometry}
use Rattle.lc_record.proofs.ListLemmas.{slice_get-append_left as get-append, slice_get-take as get-take, slice_get-drop as get-drop, Contains-slice_get as contains_at}
use Rattle.lc_page.specs.PageVector.{entry_at, settled}
use Rattle.lc_page.specs.declared.draft.Draft.{Draft}
use Rattle.lc_page.specs.declared.page_entry.PageEntry.{PageEntry}
use Rattle.lc_model.specs.Merge.{Page}
use Rattle.lc_model.specs.Stored.{page_bytes}
use Rattle.lc_model.proofs.Bytes.{same-items}
use Rattle.lc_recover.proofs.AreaLemmas.{get-set, set-get, set-others}
use Rattle.lc_recover.proofs.Begins.{ComesNext, its_segment, its_page, one_more, still_old, back_is, back_ascends, there}
use Rattle.lc_recover.proofs.PagesOf.{begin_with_the_first, one_page_more}
use Rattle.lc_recover.specs.StoreContents.{IsMerging}
use Rattle.lc_recover.specs.Page.{IsOf, IsOfAnother, page_of, pages_of}
use Rattle.lc_recover.specs.Pages.{bytes_of_page}
use Rattle.lc_recover.specs.Position.{HasChange, IsBetween}
use Rattle.lc_recover.specs.RecoveryPhase.{AreTexts, AsFarAs, EachPage, IsDraft, IsNew, IsResult, IsWriting}
use Rattle.lc_recover.specs.Steps.{all_pages}
use Rattle.lc_recover.specs.declared.redo_range.RedoRange.{RedoRange}
use Rattle.lc_recover.specs.declared.merged.Merged.{Merged}
use Rattle.lc_recover.specs.declared.page_writes.PageWrites.{PageWrites}
use Rattle.lc_recover.specs.declared.segment_pages.SegmentPages.{SegmentPages}

-- Bytes laid over others

get_behind : (xs ys : List ℕ) (k : ℕ) → length xs ≤ k → slice_get (xs ++ ys) k ≡ slice_get ys (k - length xs)
get_behind [] ys k more =
    let none : k ≡ k - 0 = omega arith in
    ap (λ (j : ℕ). slice_get ys j) none
get_behind (x ∷ xs) ys zero more = absurd (omega (arith, more))
get_behind (x ∷ xs) ys (suc k) more =
    let less : k - length xs ≡ suc k - suc (length xs) = omega arith in
    get_behind xs ys k (omega (arith, more)) ∙ ap (λ (j : ℕ). slice_get ys j) less

pub overlaid_whole : (old bytes : List ℕ) (at : ℕ) → at + length bytes ≤ length old → length (overlaid old at bytes) ≡ length old
overlaid_whole old bytes at room =
    omega (arith, length-append (take at old ++ bytes) (drop (at + length bytes) old), length-append (take at old) bytes, length-take-le at old (omega arith), length-drop (at + length bytes) old)

overlaid_elsewhere : (old bytes : List ℕ) (at k : ℕ) → at + length bytes ≤ length old → (k < at) ⊎ (at + length bytes ≤ k) → slice_get (overlaid old at bytes) k ≡ slice_get old k
overlaid_elsewhere old bytes at k room (inl less) =
    let long : length (take at old) ≡ at = length-take-le at old (omega arith) in
    get-append (take at old ++ bytes) (drop (at + length bytes) old) k (omega (arith, length-append (take at old) bytes))
    ∙ get-append (take at old) bytes k (omega arith) ∙ get-take at k old less
overlaid_elsewhere old bytes at k room (inr more) =
    let long : length (take at old ++ bytes) ≡ at + length bytes = omega (arith, length-append (take at old) bytes, length-take-le at old (omega arith)) in
    let split : at + length bytes + (k - length (take at old ++ bytes)) ≡ k = omega arith in
    get_behind (take at old ++ bytes) (drop (at + length bytes) old) k (omega arith)
    ∙ get-drop (at + length bytes) (k - length (take at old ++ bytes)) old ∙ ap (λ (j : ℕ). slice_get old j) split

pub page_over : (old bytes : List ℕ) (at : ℕ) → length bytes ≡ 256 → at + 256 ≤ length old → take 256 (drop at (overlaid old at bytes)) ≡ bytes
page_over old bytes at long room =
    ap (λ (l : List ℕ). take 256 (drop at l)) (append_assoc (take at old) bytes (drop (at + length bytes) old))
    ∙ ap (λ (l : List ℕ). take 256 l) (drop_at (take at old) (bytes ++ drop (at + length bytes) old) at (length-take-le at old (omega (arith, room))))
    ∙ take_at bytes (drop (at + length bytes) old) 256 long

pub page_beside : (old bytes : List ℕ) (one other : ℕ) → length bytes ≡ 256 → one * 256 + 256 ≤ length old → other ≢ one → take 256 (drop (other * 256) (overlaid old (one * 256) bytes)) ≡ take 256 (drop (other * 256) old)
page_beside old bytes one other long room differ =
    let part : List ℕ = drop (other * 256) (overlaid old (one * 256) bytes) in
    let before : List ℕ = drop (other * 256) old in
    same-items (take 256 (drop (other * 256) (overlaid old (one * 256) bytes))) (take 256 (drop (other * 256) old)) (λ place.
    elim (cases_lt place 256) [
      | inl within ↦
          (let apart : (other * 256 + place < one * 256) ⊎ (one * 256 + length bytes ≤ other * 256 + place) =
          elim (cases_lt other one) [ inl less ↦ inl (omega (arith, less, within)) | inr more ↦ inr (omega (arith, more, differ, long)) ] in
          get-take 256 place (drop (other * 256) (overlaid old (one * 256) bytes)) within ∙ get-drop (other * 256) place (overlaid old (one * 256) bytes)
          ∙ overlaid_elsewhere old bytes (one * 256) (other * 256 + place) (omega (arith, room, long)) apart
          ∙ sym (get-take 256 place (drop (other * 256) old) within ∙ get-drop (other * 256) place old))
      | inr past ↦
          slice_get_past (take 256 (drop (other * 256) (overlaid old (one * 256) bytes))) place (omega (arith, past, length-take 256 (drop (other * 256) (overlaid old (one * 256) bytes))))
          ∙ sym (slice_get_past (take 256 (drop (other * 256) old)) place (omega (arith, past, length-take 256 (drop (other * 256) old))))
    ])

-- Entries

pub entry_set : (xs : List PageEntry) (k : ℕ) (e d : PageEntry) → k < length xs → get_or (slice_set xs k e) k d ≡ e
entry_set xs k e d within = get_or_from_slice_get (slice_set xs k e) k e d (set-get xs k e (get_or xs k d) (slice_get-get_or xs k d within))

pub entry_other : (xs : List PageEntry) (k : ℕ) (e d : PageEntry) (j : ℕ) → j < length xs → j ≢ k → get_or (slice_set xs k e) j d ≡ get_or xs j d
entry_other xs k e d j within differ = get_or_from_slice_get (slice_set xs k e) j (get_or xs j d) d (set-others xs k e j (get_or xs j d) differ (slice_get-get_or xs j d within))

-- The pages

module _ (g : Geometry) (w : PageWrites) (i : IsWriting g w) (c : RedoRange) (here : List RedoRange) (next : ComesNext w.merged.changes.items w.next here c)
    (pages renewed : SegmentPages) (draft : Draft) (kept : slice_get w.kept.segments.items (c.segment - 1) ≡ Some pages)
    (is_draft : IsDraft i.content i.numbers c draft) (long : length draft.bytes ≡ 256)
    (texts : renewed.texts ≡ slice_set pages.texts draft.page (settled (entry_at pages.texts draft.page) draft.seq))
    (bytes : renewed.bytes.items ≡ overlaid pages.bytes.items (draft.page * 256) draft.bytes) where
  entries_many : length pages.texts ≡ g.pages
  entries_many = i.pages.entries (c.segment - 1) pages kept

  bytes_many : length pages.bytes.items ≡ g.pages * 256
  bytes_many = i.pages.bytes (c.segment - 1) pages kept

  within : draft.page < g.pages
  within = omega (arith, is_draft.page, its_page g w i c next.at)

  room : draft.page * 256 + 256 ≤ length pages.bytes.items
  room = omega (arith, within, bytes_many)

  same_entries : length renewed.texts ≡ length pages.texts
  same_entries = ap (λ (l : List PageEntry). length l) texts ∙ length-set pages.texts draft.page (settled (entry_at pages.texts draft.page) draft.seq)

  same_bytes : length renewed.bytes.items ≡ length pages.bytes.items
  same_bytes = ap (λ (l : List ℕ). length l) bytes ∙ overlaid_whole pages.bytes.items draft.bytes (draft.page * 256) (omega (arith, room, long))

  entry_is : entry_at renewed.texts c.page ≡ settled (entry_at pages.texts c.page) draft.seq
  entry_is =
      ap (λ (l : List PageEntry). entry_at l c.page) texts
      ∙ subst (λ (p : ℕ). entry_at (slice_set pages.texts p (settled (entry_at pages.texts p) draft.seq)) c.page ≡ settled (entry_at pages.texts c.page) draft.seq) (sym is_draft.page)
      (entry_set pages.texts c.page (settled (entry_at pages.texts c.page) draft.seq) _ (omega (arith, its_page g w i c next.at, entries_many)))

  bytes_is : bytes_of_page renewed c.page ≡ page_bytes c.segment c.page i.content
  bytes_is =
      ap (λ (l : List ℕ). take 256 (drop (c.page * 256) l)) bytes
      ∙ subst (λ (p : ℕ). take 256 (drop (p * 256) (overlaid pages.bytes.items (draft.page * 256) draft.bytes)) ≡ draft.bytes) is_draft.page
      (page_over pages.bytes.items draft.bytes (draft.page * 256) long room)
      ∙ is_draft.bytes

  has_it : HasChange (i.between.front ++ here) c.segment c.page
  has_it =
      let first : slice_get here 0 ≡ Some c =
      sym (get-append here next.first.rest 0 (omega (arith, next.some))) ∙ sym (ap (λ (l : List RedoRange). slice_get l 0) next.first.whole) ∙ there g w i c next.at in
      (c, Contains-append_right i.between.front here c (contains_at here 0 c first), (refl, refl))

  new_one : IsNew i.content i.numbers c.segment c.page (entry_at renewed.texts c.page) (bytes_of_page renewed c.page)
  new_one = record {
    free = ap (λ (e : PageEntry). e.uncommitted) entry_is ∙ (still_old g w i c next.at pages kept).free;
    sequence = ap (λ (e : PageEntry). e.stable) entry_is ∙ is_draft.seq;
    same = bytes_is;
  }

  -- another page is as far as it was
  as_far : (segment page : ℕ) (text : Page) (entry : PageEntry) (its : List ℕ) → ((segment ≡ c.segment) × (page ≡ c.page) → ⊥)
      → AsFarAs i.between.front i.content i.numbers segment page text entry its → AsFarAs (i.between.front ++ here) i.content i.numbers segment page text entry its
  as_far segment page text entry its differ was =
      elim was [
        | inl new ↦ inl ((new.0.0, Contains-append_left i.between.front here new.0.0 new.0.1, new.0.2), new.1)
        | inr old ↦ inr (
          (λ has.
              elim (Contains-append_cases i.between.front here has.0 has.1) [
                | inl before ↦ old.0 (has.0, before, has.2)
                | inr now ↦
                    (let its_page = All-contains (IsOf c.segment c.page) here has.0 (next.first.of_first c (there g w i c next.at)) now in
                    differ (sym has.2.0 ∙ its_page.0, sym has.2.1 ∙ its_page.1))
              ]),
          old.1,
        )
      ]

  -- a page of the segment that is another one
  others_as_far : (page : ℕ) (text : Page) → page ≢ c.page → slice_get (segment_of (c.segment - 1 + 1) i.store.pages) page ≡ Some text
      → AsFarAs (i.between.front ++ here) i.content i.numbers (c.segment - 1 + 1) page text (entry_at renewed.texts page) (bytes_of_page renewed page)
  others_as_far page text differ is =
      let lies : page < length pages.texts =
      omega (arith, slice_get_within (segment_of (c.segment - 1 + 1) i.store.pages) page text is, i.pages.shapes (c.segment - 1) (omega (arith, its_segment g w i c next.at)), entries_many) in
      let apart : page ≢ draft.page = λ same. differ (same ∙ is_draft.page) in
      let same_entry : entry_at renewed.texts page ≡ entry_at pages.texts page =
      ap (λ (l : List PageEntry). entry_at l page) texts ∙ entry_other pages.texts draft.page (settled (entry_at pages.texts draft.page) draft.seq) _ page lies apart in
      let same_page : bytes_of_page renewed page ≡ bytes_of_page pages page =
      ap (λ (l : List ℕ). take 256 (drop (page * 256) l)) bytes ∙ page_beside pages.bytes.items draft.bytes draft.page page long room apart in
      as_far (c.segment - 1 + 1) page text (entry_at renewed.texts page) (bytes_of_page renewed page) (λ same. differ same.1)
      (subst (λ (e : PageEntry). AsFarAs i.between.front i.content i.numbers (c.segment - 1 + 1) page text e (bytes_of_page renewed page)) (sym same_entry)
      (subst (λ (l : List ℕ). AsFarAs i.between.front i.content i.numbers (c.segment - 1 + 1) page text (entry_at pages.texts page) l) (sym same_page)
      (i.pages.each (c.segment - 1) page pages text kept is)))

  cases_eq : (a b : ℕ) → (a ≡ b) ⊎ (a ≢ b)
  cases_eq a b =
      elim (cases_lt a b) [
        | inl less ↦ inr (λ same. omega (arith, less, same))
        | inr not_less ↦ (elim (cases_lt b a) [ inl more ↦ inr (λ same. omega (arith, more, same)) | inr not_more ↦ inl (omega (arith, not_less, not_more)) ])
      ]

  own_each : (page : ℕ) (text : Page) → slice_get (segment_of (c.segment - 1 + 1) i.store.pages) page ≡ Some text
      → AsFarAs (i.between.front ++ here) i.content i.numbers (c.segment - 1 + 1) page text (entry_at renewed.texts page) (bytes_of_page renewed page)
  own_each page text is =
      elim (cases_eq page c.page) [
        | inl same ↦
            inl (subst (λ (p : ℕ). HasChange (i.between.front ++ here) (c.segment - 1 + 1) p × IsNew i.content i.numbers (c.segment - 1 + 1) p (entry_at renewed.texts p) (bytes_of_page renewed p)) (sym same)
            (subst (λ (s : ℕ). HasChange (i.between.front ++ here) s c.page × IsNew i.content i.numbers s c.page (entry_at renewed.texts c.page) (bytes_of_page renewed c.page)) (sym (one_more g w i c next.at))
            (has_it, new_one)))
        | inr differ ↦ others_as_far page text differ is
      ]

  pub each_page : EachPage g i.store (slice_set w.kept.segments.items (c.segment - 1) renewed) (AsFarAs (i.between.front ++ here) i.content i.numbers)
  each_page = record {
    count = length-set w.kept.segments.items (c.segment - 1) renewed ∙ i.pages.count;
    entries = λ s its is.
        elim (get-set w.kept.segments.items (c.segment - 1) renewed s its is) [
          | inl own ↦ ap (λ (p : SegmentPages). length p.texts) own.1 ∙ same_entries ∙ entries_many
          | inr other ↦ i.pages.entries s its other.1
        ];
    bytes = λ s its is.
        elim (get-set w.kept.segments.items (c.segment - 1) renewed s its is) [
          | inl own ↦ ap (λ (p : SegmentPages). length p.bytes.items) own.1 ∙ same_bytes ∙ bytes_many
          | inr other ↦ i.pages.bytes s its other.1
        ];
    shape = i.pages.shape;
    shapes = i.pages.shapes;
    each = λ s page its text is text_is.
        elim (get-set w.kept.segments.items (c.segment - 1) renewed s its is) [
          | inl own ↦
              subst (λ (p : SegmentPages). AsFarAs (i.between.front ++ here) i.content i.numbers (s + 1) page text (entry_at p.texts page) (bytes_of_page p page)) (sym own.1)
              (subst (λ (t : ℕ). slice_get (segment_of (t + 1) i.store.pages) page ≡ Some text → AsFarAs (i.between.front ++ here) i.content i.numbers (t + 1) page text (entry_at renewed.texts page) (bytes_of_page renewed page)) (sym own.0)
              (own_each page text) text_is)
          | inr other ↦
              as_far (s + 1) page text (entry_at its.texts page) (bytes_of_page its page) (λ same. other.0 (omega (arith, same.0)))
              (i.pages.each s page its text other.1 text_is)
        ];
  }

  apart_now : (segment page : ℕ) → HasChange (i.between.front ++ here) segment page → HasChange next.first.rest segment page → ⊥
  apart_now segment page before behind =
      let back : i.between.back ≡ here ++ next.first.rest = sym (back_is g w i c next.at) ∙ next.first.whole in
      elim (Contains-append_cases i.between.front here before.0 before.1) [
        | inl first ↦
            i.between.apart segment page (before.0, first, before.2)
            (behind.0, subst (λ (l : List RedoRange). Contains l behind.0) (sym back) (Contains-append_right here next.first.rest behind.0 behind.1), behind.2)
        | inr now ↦
            (let its_page = All-contains (IsOf c.segment c.page) here before.0 (next.first.of_first c (there g w i c next.at)) now in
            All-contains (IsOfAnother c.segment c.page) next.first.rest behind.0 (next.first.no_more c (there g w i c next.at) (back_ascends g w i c next.at)) behind.1
            (behind.2.0 ∙ sym before.2.0 ∙ its_page.0, behind.2.1 ∙ sym before.2.1 ∙ its_page.1))
      ]

  between_now : IsBetween w.merged.changes.items (w.next + length here)
  between_now = record {
    front = i.between.front ++ here;
    back = next.first.rest;
    all = i.between.all ∙ ap (λ (l : List RedoRange). i.between.front ++ l) (sym (back_is g w i c next.at) ∙ next.first.whole) ∙ sym (append_assoc i.between.front here next.first.rest);
    count = length-append i.between.front here ∙ ap (λ (n : ℕ). n + length here) i.between.count;
    apart = apart_now;
  }

  -- with what is kept once the page has taken its place
  pub still_writing : (new : PageWrites) → new.kept.logs ≡ w.kept.logs → new.merged ≡ w.merged
      → new.kept.segments.items ≡ slice_set w.kept.segments.items (c.segment - 1) renewed
      → new.next ≡ w.next + length here → new.written ≡ w.written + 1 → new.current ≡ None → IsWriting g new
  unfolding between_now
  still_writing new logs merged segments nexts written none = record {
    store = i.store;
    content = i.content;
    numbers = i.numbers;
    texts = subst (λ (l : _). AreTexts g l.items i.store) (sym logs) i.texts;
    merging = subst (λ (l : _). IsMerging l.items i.store new.merged) (sym logs) (subst (λ (m : Merged). IsMerging w.kept.logs.items i.store m) (sym merged) i.merging);
    result = subst (λ (m : Merged). IsResult g i.store i.content i.numbers m.numbers.items) (sym merged) i.result;
    between = record {
      front = i.between.front ++ here;
      back = next.first.rest;
      all = ap (λ (m : Merged). m.changes.items) merged ∙ between_now.all;
      count = between_now.count ∙ sym nexts;
      apart = apart_now;
    };
    few = omega (arith, nexts, written, i.few, next.some);
    pages = subst (λ (l : List SegmentPages). EachPage g i.store l (AsFarAs (i.between.front ++ here) i.content i.numbers)) (sym segments) each_page;
    drafts = λ write is. absurd (none-some write (sym none ∙ is));
  }

-- The pages that are left, where one more is written

-- the page that is written was the first of those that were left
pub left_renewed : (g : Geometry) (w : PageWrites) (i : IsWriting g w) (c : RedoRange) (here : List RedoRange) → ComesNext w.merged.changes.items w.next here c
    → pages_of (drop w.next w.merged.changes.items) ≡ page_of c ∷ pages_of (drop (w.next + length here) w.merged.changes.items)
left_renewed g w i c here next =
    begin_with_the_first (drop w.next w.merged.changes.items) here c next.first (there g w i c next.at) (back_ascends g w i c next.at)
    ∙ ap (λ (l : List RedoRange). page_of c ∷ pages_of l) (drop-drop (length here) w.next w.merged.changes.items)

pub pages_stay : (g : Geometry) (w : PageWrites) (i : IsWriting g w) (c : RedoRange) (here : List RedoRange) → ComesNext w.merged.changes.items w.next here c
    → w.written + 1 + length (pages_of (drop (w.next + length here) w.merged.changes.items)) ≡ all_pages w
pages_stay g w i c here next =
    let left : List RedoRange = drop w.next w.merged.changes.items in
    let some : 1 ≤ length (drop w.next w.merged.changes.items) = (let less : 0 < length left = slice_get_within left 0 c (there g w i c next.at) in omega (arith, less)) in
    let more : length (pages_of (drop w.next w.merged.changes.items)) ≡ 1 + length (pages_of (drop (length here) (drop w.next w.merged.changes.items))) =
    one_page_more left here next.first some (back_ascends g w i c next.at) in
    let same : length (pages_of (drop (length here) (drop w.next w.merged.changes.items))) ≡ length (pages_of (drop (w.next + length here) w.merged.changes.items)) =
    ap (λ (l : List RedoRange). length (pages_of l)) (drop-drop (length here) w.next w.merged.changes.items) in
    omega (arith, more, same)

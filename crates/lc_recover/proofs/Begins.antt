-- The page that is written next: its changes, its bytes and its number.
use Rattle.std.proofs.Common.{◌≡◌, ℕ, zero, suc, ◌+◌, ◌-◌, ◌*◌, ◌^◌, ◌<◌, ◌≤◌, List, [], ◌∷◌, ◌++◌, length, get_or, take, drop, Some, All, Contains, refl, sym, ◌∙◌, ap, subst, arith, inl, inr}
use Rattle.std.specs.Prelude.{slice_get, max}
use Rattle.std.specs.Option.{option_or}
use Rattle.std.proofs.Math.Nat.{le-max_right}
use Rattle.std.proofs.lemmas.Bool.{cases_lt}
use Rattle.std.proofs.lemmas.List.{drop_at, length-take, length-take-le, length-drop, length-append}
use Rattle.std.proofs.lemmas.List.Elements.{All-contains, All-contains_itself, All-weaker}
use Rattle.std.proofs.lemmas.Option.{none-some, same_Some, slice_get_within, slice_get_past, slice_get-get_or, get_or_from_slice_get}
use Rattle.lc_record.specs.Content.{segment_of}
use Rattle.lc_record.specs.Newest.{number_or_zero, byte_of}
use Rattle.lc_record.specs.declared.geometry.Geometry.{Geometry}
use Rattle.lc_record.specs.declared.record.Record.{Record}
use Rattle.lc_record.specs.declared.record.RangeData.{RangeData}
use Rattle.lc_record.proofs.ListLemmas.{slice_get-append_left as get-append, slice_get-take as get-take, slice_get-drop as get-drop, Contains-slice_get as contains_at}
use Rattle.lc_page.specs.PageVector.{entry_at}
use Rattle.lc_model.specs.Merge.{Page, all_records, page_number, record_number}
use Rattle.lc_model.specs.Merging.{byte_at}
use Rattle.lc_model.specs.Stored.{page_bytes}
use Rattle.lc_model.proofs.Bytes.{same-items}
use Rattle.lc_model.proofs.Numbers.{at_most-greatest}
use Rattle.lc_model.proofs.One.{by_number-one, part-times}
use Rattle.lc_model.proofs.Visible.{in-logs, log-known}
use Rattle.lc_recover.proofs.MergedPage.{ascending_behind, page_merged, ranges_stand}
use Rattle.lc_recover.proofs.PagesOf.{all_behind}
use Rattle.lc_recover.specs.StoreContents.{IsChange, AreAscending}
use Rattle.lc_recover.specs.Page.{IsOf, IsOfAnother, AreAt, AreOfPage, IsFirstPage, byte_with}
use Rattle.lc_recover.specs.Pages.{bytes_of_page}
use Rattle.lc_recover.specs.Position.{HasChange}
use Rattle.lc_recover.specs.RecoveryPhase.{AsFarAs, IsNext, IsOld, IsWriting}
use Rattle.lc_recover.specs.declared.redo_range.RedoRange.{RedoRange}
use Rattle.lc_recover.specs.declared.page_writes.PageWrites.{PageWrites}
use Rattle.lc_recover.specs.declared.segment_pages.SegmentPages.{SegmentPages}

pub found_at : {A : Type 0} (xs : List A) (k : ℕ) (x : A) → Contains xs x → (k : ℕ) × (slice_get xs k ≡ Some x)
found_at xs k x has = (has.0, slice_get-get_or xs has.0 x has.1 ∙ ap Some has.2)

-- the changes of the next page are at the front of those that are left, and this is the first of them
pub record ComesNext (changes : List RedoRange) (next : ℕ) (here : List RedoRange) (c : RedoRange) : Type 0 where
  pub at : slice_get changes next ≡ Some c
  pub first : IsFirstPage (drop next changes) here
  pub some : 1 ≤ length here
  pub few : next + length here ≤ length changes

pub comes_next : (changes slice here : List RedoRange) (next : ℕ) (default : RedoRange) → slice ≡ changes → next < length changes
    → IsFirstPage (take (length slice - next) (drop next slice)) here → ComesNext changes next here (get_or here 0 default)
comes_next changes slice here next default same left its =
    let first : IsFirstPage (drop next changes) here = subst (λ (l : List RedoRange). IsFirstPage l here) (all_behind next slice ∙ ap (λ (l : List RedoRange). drop next l) same) its in
    let long : length (drop next changes) ≡ length changes - next = length-drop next changes in
    let some : 1 ≤ length here = first.some (omega (arith, long, left)) in
    let all : length (drop next changes) ≡ length here + length first.rest = ap (λ (l : List RedoRange). length l) first.whole ∙ length-append here first.rest in
    let zero_more : next ≡ next + 0 = omega arith in
    record {
      at = ap (λ (k : ℕ). slice_get changes k) zero_more ∙ sym (get-drop next 0 changes)
          ∙ ap (λ (l : List RedoRange). slice_get l 0) first.whole ∙ get-append here first.rest 0 (omega (arith, some)) ∙ slice_get-get_or here 0 default (omega (arith, some));
      first = first;
      some = some;
      few = omega (arith, long, all, left);
    }

some_segment : (segment page : ℕ) (xs : List (List Page)) (text : Page) → slice_get (segment_of segment xs) page ≡ Some text → (1 ≤ segment) × (segment ≤ length xs)
some_segment segment page [] text is = absurd (none-some text (sym (slice_get_past {X = Page} [] page (omega arith)) ∙ is))
some_segment zero page (x ∷ xs) text is = absurd (none-some text (sym (slice_get_past {X = Page} [] page (omega arith)) ∙ is))
some_segment (suc zero) page (x ∷ xs) text is = (omega arith, omega arith)
some_segment (suc (suc n)) page (x ∷ xs) text is = (omega arith, omega (arith, (some_segment (suc n) page xs text is).1))

module _ (g : Geometry) (w : PageWrites) (i : IsWriting g w) (c : RedoRange) (at : slice_get w.merged.changes.items w.next ≡ Some c) where
  pub its_change : IsChange w.kept.logs.items i.store c
  its_change = All-contains (IsChange w.kept.logs.items i.store) w.merged.changes.items c i.merging.index.sound (contains_at w.merged.changes.items w.next c at)

  pub its_segment : (1 ≤ c.segment) × (c.segment ≤ g.segments)
  its_segment =
      let some = some_segment c.segment c.page i.store.pages its_change.text its_change.page in
      (some.0, omega (arith, some.1, i.pages.shape))

  pub one_more : c.segment - 1 + 1 ≡ c.segment
  one_more = omega (arith, its_segment.0)

  pub below : c.segment - 1 < g.segments
  below = omega (arith, its_segment.0, its_segment.1)

  pub its_page : c.page < g.pages
  its_page =
      let within : c.page < length (segment_of c.segment i.store.pages) = slice_get_within (segment_of c.segment i.store.pages) c.page its_change.text its_change.page in
      let long : length (segment_of c.segment i.store.pages) ≡ g.pages = subst (λ (s : ℕ). length (segment_of s i.store.pages) ≡ g.pages) one_more (i.pages.shapes (c.segment - 1) below) in
      omega (arith, within, long)

  pub long_page : length (page_bytes c.segment c.page i.content) ≡ 256
  long_page =
      let part : List ℕ = segment_of c.segment i.content in
      let many : length (segment_of c.segment i.store.pages) ≡ g.pages = subst (λ (s : ℕ). length (segment_of s i.store.pages) ≡ g.pages) one_more (i.pages.shapes (c.segment - 1) below) in
      let times : length (segment_of c.segment i.content) ≡ length (segment_of c.segment i.store.pages) * 256 = part-times c.segment i.content i.store.pages i.result.merges.2.shape in
      length-take-le 256 (drop (c.page * 256) (segment_of c.segment i.content)) (omega (arith, length-drop (c.page * 256) (segment_of c.segment i.content), times, many, its_page))

  pub back_is : drop w.next w.merged.changes.items ≡ i.between.back
  back_is = ap (λ (l : List RedoRange). drop w.next l) i.between.all ∙ drop_at i.between.front i.between.back w.next i.between.count

  next_zero : w.next + 0 ≡ w.next
  next_zero = omega arith

  pub there : slice_get (drop w.next w.merged.changes.items) 0 ≡ Some c
  there = get-drop w.next 0 w.merged.changes.items ∙ ap (λ (k : ℕ). slice_get w.merged.changes.items k) next_zero ∙ at

  pub back_has : Contains i.between.back c
  back_has = subst (λ (l : List RedoRange). Contains l c) back_is (contains_at (drop w.next w.merged.changes.items) 0 c there)

  pub none_front : HasChange i.between.front c.segment c.page → ⊥
  none_front has = i.between.apart c.segment c.page has (c, back_has, (refl, refl))

  pub back_ascends : AreAscending (drop w.next w.merged.changes.items)
  back_ascends = subst AreAscending (sym back_is) (ascending_behind i.between.front i.between.back (subst AreAscending i.between.all i.merging.index.ascending))

  pub here_of : (here : List RedoRange) → IsFirstPage (drop w.next w.merged.changes.items) here → AreOfPage w.merged.changes.items c.segment c.page here
  here_of here first = record {
    before = i.between.front;
    behind = first.rest;
    whole = i.between.all ∙ ap (λ (l : List RedoRange). i.between.front ++ l) (sym back_is ∙ first.whole);
    of_page = first.of_first c there;
    none_before = All-weaker (Contains i.between.front) (IsOfAnother c.segment c.page) (λ d has of. none_front (d, has, of)) i.between.front (All-contains_itself i.between.front);
    none_behind = first.no_more c there back_ascends;
  }

  pub still_old : (pages : SegmentPages) → slice_get w.kept.segments.items (c.segment - 1) ≡ Some pages
      → IsOld its_change.text (entry_at pages.texts c.page) (bytes_of_page pages c.page)
  still_old pages kept =
      let is : slice_get (segment_of (c.segment - 1 + 1) i.store.pages) c.page ≡ Some its_change.text =
      subst (λ (s : ℕ). slice_get (segment_of s i.store.pages) c.page ≡ Some its_change.text) (sym one_more) its_change.page in
      let each : AsFarAs i.between.front i.content i.numbers (c.segment - 1 + 1) c.page its_change.text (entry_at pages.texts c.page) (bytes_of_page pages c.page) =
      i.pages.each (c.segment - 1) c.page pages its_change.text kept is in
      elim each [
        | inl new ↦ absurd (none_front (subst (λ (s : ℕ). HasChange i.between.front s c.page) one_more new.0))
        | inr old ↦ old.1
      ]

  pub its_number : (d : ℕ) → get_or w.merged.numbers.items (c.segment - 1) d ≡ i.numbers c.segment
  its_number d =
      get_or_from_slice_get w.merged.numbers.items (c.segment - 1) (i.numbers (c.segment - 1 + 1)) d (i.result.numbers_are (c.segment - 1) below)
      ∙ ap i.numbers one_more

  pub small_number : i.numbers c.segment ≤ 2 ^ 60
  small_number = subst (λ (s : ℕ). i.numbers s ≤ 2 ^ 60) one_more (i.result.small (c.segment - 1) below)

  pub newer : (pages : SegmentPages) → slice_get w.kept.segments.items (c.segment - 1) ≡ Some pages → (entry_at pages.texts c.page).stable < i.numbers c.segment
  newer pages kept =
      let r : Record = its_change.changing in
      let among : Contains (all_records i.store) its_change.changing = in-logs i.store.logs c.log its_change.changing (log-known i.store.logs c.log its_change.changing its_change.among) its_change.among in
      let found = found_at (all_records i.store) 0 its_change.changing among in
      let above : its_change.text.sequence < number_or_zero c.segment its_change.changing.locks = omega (arith, its_change.newer, its_change.number) in
      let most : number_or_zero c.segment its_change.changing.locks ≤ record_number c.segment i.store = at_most-greatest (λ (q : Record). number_or_zero c.segment q.locks) (all_records i.store) found.0 its_change.changing found.1 in
      let counted : i.numbers c.segment ≡ max (page_number c.segment i.store) (record_number c.segment i.store) = i.result.merges.2.counted c.segment its_segment.0 (omega (arith, its_segment.1, i.pages.shape)) in
      let all : record_number c.segment i.store ≤ max (page_number c.segment i.store) (record_number c.segment i.store) = le-max_right (page_number c.segment i.store) (record_number c.segment i.store) in
      omega (arith, above, most, counted, all, (still_old pages kept).sequence)

  pub bytes_are : (here : List RedoRange) → IsFirstPage (drop w.next w.merged.changes.items) here
      → (pages : SegmentPages) → slice_get w.kept.segments.items (c.segment - 1) ≡ Some pages
      → (bytes before : List ℕ) → length bytes ≡ 256 → before ≡ bytes_of_page pages c.page
      → ((ranges : List RangeData) (segment page : ℕ) → AreAt w.kept.logs.items here ranges → All (IsOf segment page) here →
      (offset : ℕ) → offset < 256 → slice_get bytes offset ≡ option_or (byte_of segment (page * 256 + offset) ranges) (slice_get before offset))
      → bytes ≡ page_bytes c.segment c.page i.content
  bytes_are here first pages kept bytes before long was put =
      let of = here_of here first in
      let text : Page = its_change.text in
      let stand = ranges_stand w.kept.logs.items i.store w.merged.changes.items here c.segment c.page i.merging.index of in
      let same : before ≡ its_change.text.bytes = was ∙ (still_old pages kept).same in
      let part : List ℕ = drop (c.page * 256) (segment_of c.segment i.content) in
      same-items bytes (page_bytes c.segment c.page i.content) (λ place.
      elim (cases_lt place 256) [
        | inl within ↦
            put stand.0 c.segment c.page stand.1 of.of_page place within
            ∙ ap (λ (l : List ℕ). option_or (byte_of c.segment (c.page * 256 + place) stand.0) (slice_get l place)) same
            ∙ by_number-one c.segment (c.page * 256 + place) its_change.text.sequence (all_records i.store) (slice_get its_change.text.bytes place)
            (byte_with c.segment c.page stand.0 its_change.text.bytes place) (byte_at c.segment (c.page * 256 + place) i.content)
            (λ seq some twice. i.merging.once c.segment seq (some, twice))
            (page_merged w.kept.logs.items i.store w.merged.changes.items here c.segment c.page its_change.text stand.0 i.merging.index of its_change.page stand.1 place within)
            (i.result.merges.2.bytes c.segment c.page its_change.text its_change.page place within)
            ∙ sym (get-take 256 place (drop (c.page * 256) (segment_of c.segment i.content)) within ∙ get-drop (c.page * 256) place (segment_of c.segment i.content))
        | inr past ↦
            slice_get_past bytes place (omega (arith, past, long))
            ∙ sym (slice_get_past (page_bytes c.segment c.page i.content) place (omega (arith, past, length-take 256 (drop (c.page * 256) (segment_of c.segment i.content)))))
      ])

-- The first change of a slice of those that are left

module _ (g : Geometry) (w : PageWrites) (i : IsWriting g w) (slice here : List RedoRange) (default : RedoRange)
    (same : slice ≡ w.merged.changes.items) (left : w.next < length w.merged.changes.items) (its : IsFirstPage (take (length slice - w.next) (drop w.next slice)) here) where
  pub nearest : ComesNext w.merged.changes.items w.next here (get_or here 0 default)
  nearest = comes_next w.merged.changes.items slice here w.next default same left its

  pub some_there : 1 ≤ (get_or here 0 default).segment
  some_there = (its_segment g w i (get_or here 0 default) nearest.at).0

  pub lies_within : (get_or here 0 default).segment - 1 < length w.kept.segments.items
  lies_within = omega (arith, below g w i (get_or here 0 default) nearest.at, i.pages.count)

  pub lies_below : (get_or here 0 default).segment - 1 < length w.merged.numbers.items
  lies_below = omega (arith, below g w i (get_or here 0 default) nearest.at, i.result.count)

  pub is_next : (pages other : SegmentPages) → pages ≡ get_or w.kept.segments.items ((get_or here 0 default).segment - 1) other → IsNext w (get_or here 0 default) pages
  is_next pages other is = record {
    change = nearest.at;
    segment = some_there;
    kept = slice_get-get_or w.kept.segments.items ((get_or here 0 default).segment - 1) other lies_within ∙ ap Some (sym is);
  }

-- the change that comes next, and its pages, are these alone
pub only_next : (w : PageWrites) (c d : RedoRange) (pages others : SegmentPages) → IsNext w c pages → IsNext w d others → (c ≡ d) × (pages ≡ others)
only_next w c d pages others one two =
    let same : c ≡ d = same_Some c d (sym one.change ∙ two.change) in
    (same, same_Some pages others (sym one.kept ∙ ap (λ (e : RedoRange). slice_get w.kept.segments.items (e.segment - 1)) same ∙ two.kept))

-- What is kept of areas that were read stands for the store that they read as, and what its merge makes of it.
use Rattle.std.proofs.Common.{◌≡◌, ℕ, zero, suc, ◌+◌, ◌-◌, ◌*◌, ◌^◌, ◌<◌, ◌≤◌, ◌==◌, Option, Some, None, List, [], ◌∷◌, map, length, take, drop, Contains, refl, sym, ◌∙◌, ap, subst, arith, inl, inr}
use Rattle.std.specs.Prelude.{slice_get, slice_index_or}
use Rattle.std.specs.List.{AllByRecursion}
use Rattle.std.proofs.Math.Nat.{max-le}
use Rattle.std.proofs.lemmas.Bool.{cases_Bool}
use Rattle.std.proofs.lemmas.List.{length-map, length-take-le, length-drop}
use Rattle.std.proofs.lemmas.List.Elements.{All-contains, All-from_recursion}
use Rattle.std.proofs.lemmas.Option.{get_or_from_slice_get, slice_get_within, none-some, same_Some as one_item}
use Rattle.lc_record.specs.Content.{Content, segment_of}
use Rattle.lc_record.specs.Marks.{counting}
use Rattle.lc_record.specs.Newest.{number_or_zero}
use Rattle.lc_record.specs.Record.{IsCanonical, IsLock}
use Rattle.lc_record.specs.Words.{words_of}
use Rattle.lc_record.specs.declared.geometry.Geometry.{Geometry}
use Rattle.lc_record.specs.declared.record.Lock.{Lock}
use Rattle.lc_record.specs.declared.record.Record.{Record}
use Rattle.lc_record.proofs.ListLemmas.{slice_get_some as get-some, slice_get-map_some as get-map, slice_get_from_map as from-map}
use Rattle.lc_log.specs.InPlace.{records_in}
use Rattle.lc_log.specs.LogText.{IsLogText, IsWhole}
use Rattle.lc_log.proofs.InPlaceLemmas.{records_text}
use Rattle.lc_page.specs.Page.{page_in, page_at, present_slot, slot_bytes}
use Rattle.lc_page.specs.PageVector.{entry_at}
use Rattle.lc_page.specs.declared.page_entry.PageEntry.{PageEntry}
use Rattle.lc_page.specs.declared.slot.Slot.{Slot}
use Rattle.lc_page.specs.declared.slot.Slot.TheVariants.{First, Second}
use Rattle.lc_page.proofs.PageLemmas.{first_small, second_small}
use Rattle.lc_model.specs.Merge.{Page, StoreText, all_records, page_number, record_number, MergesTo}
use Rattle.lc_model.proofs.Numbers.{greatest-all, greatest-at_most}
use Rattle.lc_model.proofs.Visible.{log-of, log-known}
use Rattle.lc_recover.specs.StoreContents.{IsKept, IsMerging}
use Rattle.lc_recover.specs.KeptAreas.{IsRead}
use Rattle.lc_recover.specs.Pages.{AreKept, page_read, pages_read, kept_page, kept_pages, bytes_of_page}
use Rattle.lc_recover.specs.Reads.{area_count, store_of}
use Rattle.lc_recover.specs.RecoveryPhase.{EachPage, AreTexts, IsResult, AsFarAs, IsWriting}
use Rattle.lc_recover.specs.declared.store_contents.StoreContents.{StoreContents}
use Rattle.lc_recover.specs.declared.merged.Merged.{Merged}
use Rattle.lc_recover.specs.declared.page_writes.PageWrites.{PageWrites}
use Rattle.lc_recover.specs.declared.segment_pages.SegmentPages.{SegmentPages}
use Rattle.lc_recover.proofs.Images.{get-segment, in-segment, length-pages_read, get-pages_read}
use Rattle.lc_recover.proofs.Newer.{faultless-merges}
use Rattle.lc_recover.proofs.Counts.{all-from}

same-list : {A : Type 0} (xs ys : List A) → length xs ≡ length ys → ((k : ℕ) (x y : A) → slice_get xs k ≡ Some x → slice_get ys k ≡ Some y → x ≡ y) → xs ≡ ys
same-list [] [] same each = refl
same-list [] (y ∷ ys) same each = absurd (omega (arith, same))
same-list (x ∷ xs) [] same each = absurd (omega (arith, same))
same-list (x ∷ xs) (y ∷ ys) same each =
    let rest : xs ≡ ys = same-list xs ys (omega (arith, same)) (λ k. each (suc k)) in
    let first : x ≡ y = each 0 x y refl refl in
    ap (λ z. z ∷ xs) first ∙ ap (λ zs. y ∷ zs) rest

map-counting : {A : Type 0} (f h : ℕ → A) (first n : ℕ) → ((p : ℕ) → p < first + n → f p ≡ h p) → map f (counting first n) ≡ map h (counting first n)
map-counting f h first zero same = refl
map-counting f h first (suc n) same =
    ap (λ z. z ∷ map f (counting (first + 1) n)) (same first (omega arith))
    ∙ ap (λ zs. h first ∷ zs) (map-counting f h (first + 1) n (λ p less. same p (omega (arith, less))))

-- the pages of one segment
kept-as-read : (area : List ℕ) (n : ℕ) (s : SegmentPages) → AreKept area n s → pages_read n area ≡ kept_pages s
kept-as-read area n s kept =
    map-counting (page_read area) (kept_page s) 0 n (λ p less.
    ap (λ (e : PageEntry). record { sequence = e.stable; bytes = (page_in area p).content }) (sym (kept.entries p (omega (arith, less))))
    ∙ ap (λ (l : List ℕ). record { sequence = (entry_at s.texts p).stable; bytes = l }) (sym (kept.bytes p (omega (arith, less)))))
    ∙ ap (λ (m : ℕ). map (kept_page s) (counting 0 m)) (sym kept.count)

page-len : (n page : ℕ) (s : SegmentPages) → page < n → length s.bytes.items ≡ n * 256 → length (bytes_of_page s page) ≡ 256
page-len n page s within len =
    length-take-le 256 (drop (page * 256) s.bytes.items) (omega (arith, within, len, length-drop (page * 256) s.bytes.items))

module _ (g : Geometry) (read : List (List ℕ)) (kept : StoreContents) (is : IsRead g read kept) (count : length read ≡ area_count g) where
  few : length (take g.nodes read) ≡ g.nodes
  few = length-take-le g.nodes read (omega (arith, count))

  pub segment_count : length kept.segments.items ≡ g.segments
  segment_count = is.segments.count ∙ length-drop g.nodes read ∙ omega (arith, count)

  pub kept-texts : AreTexts g kept.logs.items (store_of g read)
  kept-texts = record {
    count = ap (λ (l : List (List ℕ)). length l) is.logs ∙ length-map (take g.nodes read) words_of ∙ few;
    same_count = length-map (take g.nodes read) (λ bytes. records_in (words_of bytes)) ∙ few;
    texts = λ log less.
        let here = get-some (take g.nodes read) log (omega (arith, less, few)) in
        let words : slice_index_or kept.logs.items log [] ≡ words_of here.0 =
        get_or_from_slice_get kept.logs.items log (words_of here.0) [] (ap (λ (l : List (List ℕ)). slice_get l log) is.logs ∙ get-map words_of (take g.nodes read) log here.0 here.1) in
        let records : slice_index_or (store_of g read).logs log [] ≡ records_in (words_of here.0) =
        get_or_from_slice_get (store_of g read).logs log (records_in (words_of here.0)) [] (get-map (λ bytes. records_in (words_of bytes)) (take g.nodes read) log here.0 here.1) in
        subst (λ (l : List ℕ). IsLogText l (slice_index_or (store_of g read).logs log [])) (sym words)
        (subst (λ (rs : List Record). IsLogText (words_of here.0) rs) (sym records) (records_text (words_of here.0)));
  }

  pub kept-pages-are : (store_of g read).pages ≡ map kept_pages kept.segments.items
  kept-pages-are =
      same-list (map (pages_read g.pages) (drop g.nodes read)) (map kept_pages kept.segments.items)
      (length-map (drop g.nodes read) (pages_read g.pages) ∙ sym is.segments.count ∙ sym (length-map kept.segments.items kept_pages))
      (λ k x y x_is y_is.
      let area = from-map (pages_read g.pages) (drop g.nodes read) k x x_is in
      let pages = from-map kept_pages kept.segments.items k y y_is in
      sym area.2 ∙ kept-as-read area.0 g.pages pages.0 (is.segments.each k area.0 pages.0 area.1 pages.1) ∙ pages.2)

  pub kept-store : IsKept kept.logs.items kept.segments.items (store_of g read)
  kept-store = record {
    count = kept-texts.same_count ∙ sym kept-texts.count;
    texts = λ log less. kept-texts.texts log (omega (arith, less, kept-texts.count));
    pages = kept-pages-are;
  }

  -- the area of a segment, its pages as they are kept, and one of them
  module _ (s : ℕ) (pages : SegmentPages) (pages_is : slice_get kept.segments.items s ≡ Some pages) where
    pub its_area : (area : List ℕ) × (slice_get (drop g.nodes read) s ≡ Some area)
    its_area = get-some (drop g.nodes read) s (omega (arith, slice_get_within kept.segments.items s pages pages_is, is.segments.count))

    pub its-pages : AreKept its_area.0 g.pages pages
    its-pages = is.segments.each s its_area.0 pages its_area.1 pages_is

    pub its_segment : segment_of (suc s) (store_of g read).pages ≡ pages_read g.pages its_area.0
    its_segment = get-segment (store_of g read).pages s (pages_read g.pages its_area.0) (get-map (pages_read g.pages) (drop g.nodes read) s its_area.0 its_area.1)

    same_page : (page : ℕ) → page < g.pages → page_read its_area.0 page ≡ kept_page pages page
    same_page page within =
        ap (λ (e : PageEntry). record { sequence = e.stable; bytes = (page_in its_area.0 page).content }) (sym (its-pages.entries page within))
        ∙ ap (λ (l : List ℕ). record { sequence = (entry_at pages.texts page).stable; bytes = l }) (sym (its-pages.bytes page within))

    pub its-page : (page : ℕ) (text : Page) → slice_get (segment_of (s + 1) (store_of g read).pages) page ≡ Some text → (page < g.pages) × (text ≡ kept_page pages page)
    its-page page text text_is =
        let next : s + 1 ≡ suc s = omega arith in
        let there : slice_get (kept_pages pages) page ≡ Some text =
        sym (ap (λ (l : List Page). slice_get l page) (ap (λ (n : ℕ). segment_of n (store_of g read).pages) next ∙ its_segment ∙ kept-as-read its_area.0 g.pages pages its-pages)) ∙ text_is in
        let read_there : slice_get (pages_read g.pages its_area.0) page ≡ Some text =
        sym (ap (λ (l : List Page). slice_get l page) (ap (λ (n : ℕ). segment_of n (store_of g read).pages) next ∙ its_segment)) ∙ text_is in
        let within : page < g.pages = omega (arith, slice_get_within (pages_read g.pages its_area.0) page text read_there, length-pages_read g.pages its_area.0) in (
          within,
          one_item text (kept_page pages page) (sym there ∙ ap (λ (l : List Page). slice_get l page) (sym (kept-as-read its_area.0 g.pages pages its-pages)) ∙ get-pages_read g.pages its_area.0 page within
              ∙ ap Some (same_page page within)),
        )

  pub long-pages : (segment page : ℕ) (text : Page) → slice_get (segment_of segment (store_of g read).pages) page ≡ Some text → length text.bytes ≡ 256
  long-pages segment page text text_is =
      let at = in-segment segment page (store_of g read).pages text text_is in
      let within : at.before < length kept.segments.items = omega (arith, slice_get_within (store_of g read).pages at.before at.part at.part_is, length-map (drop g.nodes read) (pages_read g.pages), is.segments.count) in
      let pages = get-some kept.segments.items at.before within in
      let next_is : segment ≡ at.before + 1 = omega (arith, at.next) in
      let there : slice_get (segment_of (at.before + 1) (store_of g read).pages) page ≡ Some text = ap (λ (n : ℕ). slice_get (segment_of n (store_of g read).pages) page) (sym next_is) ∙ text_is in
      let here = its-page at.before pages.0 pages.1 page text there in
      let its = its-pages at.before pages.0 pages.1 in
      ap (λ (t : Page). length t.bytes) here.1 ∙ page-len g.pages page pages.0 here.0 its.len

pub merged-result : (logs : List (List ℕ)) (store : StoreText) (merged : Merged) → IsMerging logs store merged →
    ((segment page : ℕ) (text : Page) → slice_get (segment_of segment store.pages) page ≡ Some text → length text.bytes ≡ 256) →
    (content : Content) × (numbers : ℕ → ℕ) × MergesTo store content numbers
merged-result logs store merged is long =
    faultless-merges store (record { own = is.own; lying_within = is.lying_within; once = is.once; no_gap = is.no_gap }) long

-- Numbers of at most 2^60

-- a page that is read
page-small : (slots : Slot → List ℕ) (present : Option Slot) → present_slot slots ≡ present → (page_at slots present).sequence ≤ 2 ^ 60
page-small slots None is = omega arith
page-small slots (Some First) is = first_small (slots First) (slots Second) _ is
page-small slots (Some Second) is = second_small (slots First) (slots Second) _ is

-- a record's lock
lock-small : (segment : ℕ) (locks : List Lock) → AllByRecursion IsLock locks → number_or_zero segment locks ≤ 2 ^ 60
lock-small segment [] each = omega arith
lock-small segment (lock ∷ locks) each =
    elim (cases_Bool (lock.segment == segment)) [
      | inl own ↦ rw own (each.0.3)
      | inr other ↦ rw other (lock-small segment locks each.1)
    ]

-- what areas read as
module _ (g : Geometry) (read : List (List ℕ)) where
  pages-small : (segment : ℕ) → page_number segment (store_of g read) ≤ 2 ^ 60
  pages-small segment =
      greatest-at_most (λ (p : Page). p.sequence) (2 ^ 60) (segment_of segment (store_of g read).pages) (λ page text text_is.
      let at = in-segment segment page (store_of g read).pages text text_is in
      let area = from-map (pages_read g.pages) (drop g.nodes read) at.before at.part at.part_is in
      let its = from-map (page_read area.0) (counting 0 g.pages) page text (ap (λ (l : List Page). slice_get l page) area.2 ∙ at.item_is) in
      subst (λ (t : Page). t.sequence ≤ 2 ^ 60) its.2 (page-small (slot_bytes area.0 its.0) (present_slot (slot_bytes area.0 its.0)) refl))

  module _ (logs : List (List ℕ)) (texts : AreTexts g logs (store_of g read)) where
    each-canonical : (r : Record) → Contains (all_records (store_of g read)) r → IsCanonical r
    each-canonical r has =
        let at = log-of (store_of g read).logs r has in
        let less : at.0 < g.nodes = omega (arith, log-known (store_of g read).logs at.0 r at.1, texts.same_count) in
        (All-contains IsWhole (slice_index_or (store_of g read).logs at.0 []) r (All-from_recursion IsWhole (slice_index_or (store_of g read).logs at.0 []) (texts.texts at.0 less).whole) at.1).canonical

    records-small : (segment : ℕ) → record_number segment (store_of g read) ≤ 2 ^ 60
    records-small segment =
        greatest-all (λ (r : Record). number_or_zero segment r.locks) (2 ^ 60) (all_records (store_of g read))
        (all-from (λ (r : Record). number_or_zero segment r.locks ≤ 2 ^ 60) (all_records (store_of g read)) (λ r has. lock-small segment r.locks (each-canonical r has).each_lock))

module _ (g : Geometry) (read : List (List ℕ)) (w : PageWrites) (is : IsRead g read w.kept) (count : length read ≡ area_count g) (merging : IsMerging w.kept.logs.items (store_of g read) w.merged) (next : w.next ≡ 0) (written : w.written ≡ 0) (none : w.current ≡ None) where
  long : (segment page : ℕ) (text : Page) → slice_get (segment_of segment (store_of g read).pages) page ≡ Some text → length text.bytes ≡ 256
  long = long-pages g read w.kept is count

  pub result : (content : Content) × (numbers : ℕ → ℕ) × MergesTo (store_of g read) content numbers
  result = merged-result w.kept.logs.items (store_of g read) w.merged merging long

  pub store_count : length (store_of g read).pages ≡ g.segments
  store_count = length-map (drop g.nodes read) (pages_read g.pages) ∙ sym is.segments.count ∙ segment_count g read w.kept is count

  pub is_result : IsResult g (store_of g read) result.0 result.1 w.merged.numbers.items
  is_result = record {
    merges = result.2;
    long = long;
    count = merging.count ∙ store_count;
    numbers_are = λ s less.
        let first : 1 ≤ s + 1 = omega arith in
        let last : s + 1 ≤ length (store_of g read).pages = omega (arith, less, store_count) in
        let here : s + 1 - 1 ≡ s = omega arith in
        ap (slice_get w.merged.numbers.items) (sym here) ∙ merging.numbers (s + 1) first last ∙ ap Some (sym (result.2.2.counted (s + 1) first last));
    small = λ s less.
        let first : 1 ≤ s + 1 = omega arith in
        let last : s + 1 ≤ length (store_of g read).pages = omega (arith, less, store_count) in
        subst (λ (n : ℕ). n ≤ 2 ^ 60) (sym (result.2.2.counted (s + 1) first last))
        (max-le (pages-small g read (s + 1)) (records-small g read w.kept.logs.items (kept-texts g read w.kept is count) (s + 1)));
  }

  pub all_old : EachPage g (store_of g read) w.kept.segments.items (AsFarAs [] result.0 result.1)
  all_old = record {
    count = segment_count g read w.kept is count;
    entries = λ s pages pages_is. (its-pages g read w.kept is count s pages pages_is).count;
    bytes = λ s pages pages_is. (its-pages g read w.kept is count s pages pages_is).len;
    shape = store_count;
    shapes = λ s less.
        let pages = get-some w.kept.segments.items s (omega (arith, less, segment_count g read w.kept is count)) in
        let next_is : s + 1 ≡ suc s = omega arith in
        ap (λ (n : ℕ). length (segment_of n (store_of g read).pages)) next_is ∙ ap (λ (l : List Page). length l) (its_segment g read w.kept is count s pages.0 pages.1)
        ∙ length-pages_read g.pages (its_area g read w.kept is count s pages.0 pages.1).0;
    each = λ s page pages text pages_is text_is.
        let here = its-page g read w.kept is count s pages pages_is page text text_is in
        let kept = its-pages g read w.kept is count s pages pages_is in
        inr (
          (λ changed. omega (arith, changed.1.1)),
          record {
            free = ap (λ (e : PageEntry). e.uncommitted) (kept.entries page here.0);
            sequence = sym (ap (λ (t : Page). t.sequence) here.1);
            same = sym (ap (λ (t : Page). t.bytes) here.1);
          },
        );
  }

  unfoldable pub merged-writing : IsWriting g w
  merged-writing = record {
    store = store_of g read;
    content = result.0;
    numbers = result.1;
    texts = kept-texts g read w.kept is count;
    merging = merging;
    result = is_result;
    between = record { front = []; back = w.merged.changes.items; all = refl; count = sym next; apart = λ segment page has other. omega (arith, has.1.1) };
    few = omega (arith, written);
    pages = all_old;
    drafts = λ write write_is. absurd (none-some write (sym none ∙ write_is));
  }

-- What is kept of a segment once one of its pages is written.
use Rattle.std.proofs.Common.{◌≡◌, ◌≢◌, ℕ, suc, ◌+◌, ◌-◌, ◌*◌, ◌<◌, ◌≤◌, List, [], ◌∷◌, map, take, drop, length, Some, refl, sym, ◌∙◌, ap, arith, inl, inr}
use Rattle.std.specs.Prelude.{slice_get, slice_set}
use Rattle.std.proofs.lemmas.Bool.{cases_eq}
use Rattle.std.proofs.lemmas.List.{length-map, length-set, map-set}
use Rattle.lc_disk.specs.Area.{overlaid}
use Rattle.lc_record.specs.Content.{Content, segment_of}
use Rattle.lc_record.specs.Marks.{counting}
use Rattle.lc_record.proofs.ListLemmas.{length-counting, slice_get-map_some as get-map}
use Rattle.lc_page.specs.PageVector.{entry_at, entry_text, settled}
use Rattle.lc_page.specs.declared.draft.Draft.{Draft}
use Rattle.lc_page.specs.declared.page_entry.PageEntry.{PageEntry}
use Rattle.lc_model.specs.Merge.{Page}
use Rattle.lc_recover.proofs.AreaLemmas.{set-get, set-others}
use Rattle.lc_recover.proofs.Bridge.{same_page}
use Rattle.lc_recover.proofs.Going.{same_lists}
use Rattle.lc_recover.proofs.Images.{get-counting, get-segment}
use Rattle.lc_recover.proofs.Settles.{entry_set, entry_other, page_over, page_beside}
use Rattle.lc_recover.specs.Pages.{bytes_of_page, kept_page, kept_pages}
use Rattle.lc_recover.specs.Recovered.{page_read, recovered_pages}
use Rattle.lc_recover.specs.Recovery.{with_page}
use Rattle.lc_recover.specs.Shows.{new_page}
use Rattle.lc_recover.specs.RecoveryPhase.{IsDraft}
use Rattle.lc_recover.specs.declared.redo_range.RedoRange.{RedoRange}
use Rattle.lc_recover.specs.declared.segment_pages.SegmentPages.{SegmentPages}

count-kept : (s : SegmentPages) → length (kept_pages s) ≡ length s.texts
count-kept s = length-map (counting 0 (length s.texts)) (kept_page s) ∙ length-counting 0 (length s.texts)

get-kept : (s : SegmentPages) (k : ℕ) → k < length s.texts → slice_get (kept_pages s) k ≡ Some (kept_page s k)
get-kept s k within =
    let own : 0 + k ≡ k = omega arith in
    get-map (kept_page s) (counting 0 (length s.texts)) k k (get-counting 0 (length s.texts) k within ∙ ap Some own)

module _ (pages renewed : SegmentPages) (page seq : ℕ) (bytes : List ℕ) (within : page < length pages.texts) (long : length bytes ≡ 256) (room : page * 256 + 256 ≤ length pages.bytes.items)
    (texts : renewed.texts ≡ slice_set pages.texts page (settled (entry_at pages.texts page) seq)) (over : renewed.bytes.items ≡ overlaid pages.bytes.items (page * 256) bytes) where
  same_count : length renewed.texts ≡ length pages.texts
  same_count = ap (λ (l : List PageEntry). length l) texts ∙ length-set pages.texts page (settled (entry_at pages.texts page) seq)

  own : kept_page renewed page ≡ record { sequence = seq; bytes = bytes }
  own =
      same_page (kept_page renewed page) (record { sequence = seq; bytes = bytes })
      (ap (λ (e : PageEntry). e.stable) (ap (λ (l : List PageEntry). entry_at l page) texts ∙ entry_set pages.texts page (settled (entry_at pages.texts page) seq) _ within))
      (ap (λ (l : List ℕ). take 256 (drop (page * 256) l)) over ∙ page_over pages.bytes.items bytes (page * 256) long room)

  beside : (k : ℕ) → k < length pages.texts → k ≢ page → kept_page renewed k ≡ kept_page pages k
  beside k less differ =
      same_page (kept_page renewed k) (kept_page pages k)
      (ap (λ (e : PageEntry). e.stable) (ap (λ (l : List PageEntry). entry_at l k) texts ∙ entry_other pages.texts page (settled (entry_at pages.texts page) seq) _ k less differ))
      (ap (λ (l : List ℕ). take 256 (drop (k * 256) l)) over ∙ page_beside pages.bytes.items bytes page k long room differ)

  pub kept-renewed : kept_pages renewed ≡ slice_set (kept_pages pages) page (record { sequence = seq; bytes = bytes })
  kept-renewed =
      same_lists (kept_pages renewed) (slice_set (kept_pages pages) page (record { sequence = seq; bytes = bytes }))
      (count-kept renewed ∙ same_count ∙ sym (count-kept pages) ∙ sym (length-set (kept_pages pages) page (record { sequence = seq; bytes = bytes })))
      (λ k less.
      let known : k < length pages.texts = omega (arith, less, count-kept renewed, same_count) in
      elim (cases_eq k page) [
        | inl here ↦
            get-kept renewed k (omega (arith, known, same_count)) ∙ ap Some (ap (kept_page renewed) here ∙ own)
            ∙ sym (ap (slice_get (slice_set (kept_pages pages) page (record { sequence = seq; bytes = bytes }))) here ∙ set-get (kept_pages pages) page (record { sequence = seq; bytes = bytes }) (kept_page pages page) (get-kept pages page within))
        | inr differ ↦
            get-kept renewed k (omega (arith, known, same_count)) ∙ ap Some (beside k known differ)
            ∙ sym (set-others (kept_pages pages) page (record { sequence = seq; bytes = bytes }) k (kept_page pages k) differ (get-kept pages k known))
      ])

-- of a page of the segments, which was drafted
pub renewed-kept : (segments : List SegmentPages) (content : Content) (numbers : ℕ → ℕ) (c : RedoRange) (pages renewed : SegmentPages) (draft : Draft) →
    1 ≤ c.segment → slice_get segments (c.segment - 1) ≡ Some pages → IsDraft content numbers c draft → c.page < length pages.texts → length draft.bytes ≡ 256 → c.page * 256 + 256 ≤ length pages.bytes.items →
    renewed.texts ≡ slice_set pages.texts draft.page (settled (entry_at pages.texts draft.page) draft.seq) → renewed.bytes.items ≡ overlaid pages.bytes.items (draft.page * 256) draft.bytes →
    map kept_pages (slice_set segments (c.segment - 1) renewed) ≡ with_page c.segment c.page (new_page content numbers c.segment c.page) (map kept_pages segments)
renewed-kept segments content numbers c pages renewed draft some is draft_is within long room texts over =
    let next : suc (c.segment - 1) ≡ c.segment = omega (arith, some) in
    let its : segment_of c.segment (map kept_pages segments) ≡ kept_pages pages =
    ap (λ (n : ℕ). segment_of n (map kept_pages segments)) (sym next) ∙ get-segment (map kept_pages segments) (c.segment - 1) (kept_pages pages) (get-map kept_pages segments (c.segment - 1) pages is) in
    let text : record { sequence = draft.seq; bytes = draft.bytes } ≡ new_page content numbers c.segment c.page =
    same_page (record { sequence = draft.seq; bytes = draft.bytes }) (new_page content numbers c.segment c.page) draft_is.seq draft_is.bytes in
    map-set kept_pages segments (c.segment - 1) renewed
    ∙ ap (λ (l : List Page). slice_set (map kept_pages segments) (c.segment - 1) l)
    (kept-renewed pages renewed draft.page draft.seq draft.bytes (omega (arith, within, draft_is.page)) long (omega (arith, room, draft_is.page)) texts over
    ∙ ap (λ (l : List Page). slice_set l draft.page (record { sequence = draft.seq; bytes = draft.bytes })) (sym its)
    ∙ ap (λ (p : Page). slice_set (segment_of c.segment (map kept_pages segments)) draft.page p) text
    ∙ ap (λ (n : ℕ). slice_set (segment_of c.segment (map kept_pages segments)) n (new_page content numbers c.segment c.page)) draft_is.page)

-- what is handed out of a segment has what is kept of it
map-twice : {A B C : Type 0} (f : B → C) (h : A → B) (xs : List A) → map f (map h xs) ≡ map (λ x. f (h x)) xs
map-twice f h [] = refl
map-twice f h (x ∷ xs) = ap (λ l. f (h x) ∷ l) (map-twice f h xs)

pub handed-out : (segments : List SegmentPages) → map (map page_read) (map recovered_pages segments) ≡ map kept_pages segments
handed-out [] = refl
handed-out (s ∷ segments) =
    let own : map page_read (recovered_pages s) ≡ kept_pages s =
    map-twice page_read (λ page. record { text = entry_text (entry_at s.texts page); bytes = bytes_of_page s page }) (counting 0 (length s.texts)) in
    let others : map (map page_read) (map recovered_pages segments) ≡ map kept_pages segments = handed-out segments in
    ap (λ (p : List Page). p ∷ map (map page_read) (map recovered_pages segments)) own ∙ ap (λ (l : List (List Page)). kept_pages s ∷ l) others

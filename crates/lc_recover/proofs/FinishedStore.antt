-- What is kept after the last step of a recovery is a recovered store.
use Rattle.std.proofs.Common.{◌≡◌, ℕ, ◌+◌, ◌-◌, ◌^◌, ◌<◌, ◌≤◌, true, Some, List, map, length, get_or, sym, ◌∙◌, ap, subst, arith, inl, inr}
use Rattle.std.specs.Prelude.{slice_get}
use Rattle.std.specs.Option.{unwrap_or}
use Rattle.std.proofs.Math.Numerals.{add-one}
use Rattle.std.proofs.lemmas.Bool.{cases_lt}
use Rattle.std.proofs.lemmas.Option.{slice_get_within, get_or_from_slice_get, same_Some as one_item}
use Rattle.lc_disk.specs.Area.{IsClean}
use Rattle.lc_disk.specs.declared.area.Area.{Ghosts}
use Rattle.lc_record.specs.Content.{segment_of}
use Rattle.lc_record.specs.Marks.{counting}
use Rattle.lc_record.specs.declared.geometry.Geometry.{Geometry}
use Rattle.lc_record.proofs.ListLemmas.{slice_get_some as get-some, slice_get-map_some as get-map}
use Rattle.lc_page.specs.Page.{Page as AreaPage, page_in, text_in}
use Rattle.lc_page.specs.PageVector.{entry_at, entry_text}
use Rattle.lc_page.specs.declared.page_text.PageText.{PageText}
use Rattle.lc_page.proofs.StateLemmas.{settled_reads}
use Rattle.lc_model.specs.Merge.{Page, StoreText}
use Rattle.lc_model.specs.Recovered.{IsRenewed}
use Rattle.lc_recover.specs.Pages.{bytes_of_page}
use Rattle.lc_recover.specs.Reads.{HaveLengths}
use Rattle.lc_recover.specs.Recovered.{RecoveredPage, RecoveredStore, recovered_pages, no_page, page_of, page_read_of, AreFinished, HasPages, IsMade}
use Rattle.lc_recover.specs.RecoveryPhase.{AreasFit, AreTexts, IsWhole, IsEmptied, Rests, RestsAt}
use Rattle.lc_recover.specs.declared.finished.Finished.{Finished}
use Rattle.lc_recover.specs.declared.segment_pages.SegmentPages.{SegmentPages}
use Rattle.lc_recover.specs.declared.recovery_phase.RecoveryPhase.TheVariants.{Done}
use Rattle.lc_model.proofs.Numbers.{at_most-greatest}
use Rattle.lc_recover.proofs.Bridge.{same_page}
use Rattle.lc_recover.proofs.Images.{get-counting, get-segment, in-segment}
use Rattle.lc_recover.proofs.Readable.{readable}
use Rattle.lc_recover.proofs.Showing.{done-merges, have-lengths}

-- a page that is kept
abbrev pub recovered_page : SegmentPages → ℕ → RecoveredPage
recovered_page s page = record { text = entry_text (entry_at s.texts page); bytes = bytes_of_page s page }

-- a page of a segment, counted from 0
pub page-kept : (segments : List SegmentPages) (s page : ℕ) (pages : SegmentPages) → slice_get segments s ≡ Some pages → page < length pages.texts
    → unwrap_or (slice_get (segment_of (s + 1) (map recovered_pages segments)) page) no_page ≡ recovered_page pages page
page-kept segments s page pages is within =
    let part : segment_of (s + 1) (map recovered_pages segments) ≡ recovered_pages pages =
    ap (λ (n : ℕ). segment_of n (map recovered_pages segments)) (add-one s) ∙ get-segment (map recovered_pages segments) s (recovered_pages pages) (get-map recovered_pages segments s pages is) in
    let zero_more : 0 + page ≡ page = omega arith in
    let there : slice_get (recovered_pages pages) page ≡ Some (recovered_page pages page) =
    get-map (recovered_page pages) (counting 0 (length pages.texts)) page page (get-counting 0 (length pages.texts) page within ∙ ap (λ (n : ℕ). Some n) zero_more) in
    ap (λ o. unwrap_or o no_page) (ap (λ (l : List RecoveredPage). slice_get l page) part ∙ there)

-- a page of a segment, counted from 1
pub page-at : (g : Geometry) (segments : List SegmentPages) (numbers : List ℕ) → HasPages g segments numbers → (segment page : ℕ) → 1 ≤ segment → page < g.pages → (pages : SegmentPages) → slice_get segments (segment - 1) ≡ Some pages
    → unwrap_or (slice_get (segment_of segment (map recovered_pages segments)) page) no_page ≡ recovered_page pages page
page-at g segments numbers has segment page first within pages is =
    let next : segment ≡ (segment - 1) + 1 = omega (arith, first) in
    ap (λ (n : ℕ). unwrap_or (slice_get (segment_of n (map recovered_pages segments)) page) no_page) next
    ∙ page-kept segments (segment - 1) page pages is (omega (arith, within, has.entries (segment - 1) pages is))

same_area_page : (p q : AreaPage) → p.sequence ≡ q.sequence → p.content ≡ q.content → p ≡ q
same_area_page p q sequence content =
    ap (λ (n : ℕ). let x : AreaPage = record { sequence = n; content = p.content } in x) sequence
    ∙ ap (λ (l : List ℕ). let x : AreaPage = record { sequence = q.sequence; content = l } in x) content

module _ {D : Type 0} (a : Ghosts D) (g : Geometry) (f : Finished) (areas : List D) (fits : AreasFit a g (Done f) areas) (logs : List (List ℕ)) (store : StoreText) (texts : AreTexts g logs store) (whole : IsWhole g f.segments.items f.numbers.items store) where
  -- what it has made of the store
  abbrev stored : RecoveredStore D
  stored = record { geometry = g; areas = areas; sequences = f.numbers.items; pages = map recovered_pages f.segments.items }

  its-number : (segment : ℕ) → 1 ≤ segment → segment ≤ g.segments → get_or f.numbers.items (segment - 1) 0 ≡ whole.numbers segment
  its-number segment first last =
      let back : (segment - 1) + 1 ≡ segment = omega (arith, first) in
      get_or_from_slice_get f.numbers.items (segment - 1) (whole.numbers ((segment - 1) + 1)) 0 (whole.result.numbers_are (segment - 1) (omega (arith, first, last))) ∙ ap whole.numbers back

  its-small : (segment : ℕ) → 1 ≤ segment → segment ≤ g.segments → whole.numbers segment ≤ 2 ^ 60
  its-small segment first last =
      let back : (segment - 1) + 1 ≡ segment = omega (arith, first) in
      subst (λ (n : ℕ). whole.numbers n ≤ 2 ^ 60) back (whole.result.small (segment - 1) (omega (arith, first, last)))

  -- a page that is kept, of a segment counted from 0
  page-is : (s page : ℕ) (pages : SegmentPages) → slice_get f.segments.items s ≡ Some pages → page < g.pages → page_of stored (s + 1) page ≡ recovered_page pages page
  page-is s page pages is within = page-kept f.segments.items s page pages is (omega (arith, within, whole.pages.entries s pages is))

  renewed-page : (s page : ℕ) (old : Page) → s < g.segments → slice_get (segment_of (s + 1) store.pages) page ≡ Some old → IsRenewed store whole.content whole.numbers (s + 1) page old (page_read_of stored (s + 1) page)
  renewed-page s page old known is =
      let pages = get-some f.segments.items s (omega (arith, known, whole.pages.count)) in
      let within : page < g.pages = omega (arith, slice_get_within (segment_of (s + 1) store.pages) page old is, whole.pages.shapes s known) in
      let here = page-is s page pages.0 pages.1 within in
      let sequence : (page_read_of stored (s + 1) page).sequence ≡ (entry_at pages.0.texts page).stable = ap (λ (p : RecoveredPage). p.text.seq) here in
      let bytes : (page_read_of stored (s + 1) page).bytes ≡ bytes_of_page pages.0 page = ap (λ (p : RecoveredPage). p.bytes) here in
      elim (whole.pages.each s page pages.0 old pages.1 is) [
        | inl new ↦ inl (new.0, sequence ∙ new.1.sequence, bytes ∙ new.1.same)
        | inr stays ↦ inr (stays.0, same_page (page_read_of stored (s + 1) page) old (sequence ∙ stays.1.sequence) (bytes ∙ stays.1.same))
      ]

  renewed : (segment page : ℕ) (old : Page) → slice_get (segment_of segment store.pages) page ≡ Some old → IsRenewed store whole.content whole.numbers segment page old (page_read_of stored segment page)
  renewed segment page old is =
      let found = in-segment segment page store.pages old is in
      let known : found.before < g.segments = omega (arith, slice_get_within store.pages found.before found.part found.part_is, whole.pages.shape) in
      let here : segment ≡ found.before + 1 = found.next ∙ sym (add-one found.before) in
      subst (λ (n : ℕ). IsRenewed store whole.content whole.numbers n page old (page_read_of stored n page)) (sym here)
      (renewed-page found.before page old known (ap (λ (n : ℕ). slice_get (segment_of n store.pages) page) (sym here) ∙ is))

  -- an area

  its-log : (log : ℕ) (area : D) → log < g.nodes → slice_get areas log ≡ Some area → a.honest area ≡ true → IsEmptied a area
  its-log log area within is honest = (fits.each log area is).log honest within

  -- the area of a segment, with the pages that are kept of it
  its-segment : (s : ℕ) (area : D) → slice_get areas (g.nodes + s) ≡ Some area → a.honest area ≡ true → (pages : SegmentPages) × (slice_get f.segments.items s ≡ Some pages) × Rests a g pages area
  its-segment s area is honest =
      let known : s < g.segments = omega (arith, slice_get_within areas (g.nodes + s) area is, fits.count) in
      let pages = get-some f.segments.items s (omega (arith, known, whole.pages.count)) in
      let back : (g.nodes + s) - g.nodes ≡ s = omega arith in
      (pages.0, pages.1, (fits.each (g.nodes + s) area is).segment honest (omega arith) pages.0 (ap (slice_get f.segments.items) back ∙ pages.1))

  its-clean : (k : ℕ) (area : D) → slice_get areas k ≡ Some area → a.honest area ≡ true → IsClean (a.dirty area)
  its-clean k area is honest =
      elim (cases_lt k g.nodes) [
        | inl log ↦ (its-log k area log is honest).clean
        | inr segment ↦
            let back : k ≡ g.nodes + (k - g.nodes) = omega (arith, segment) in
            (its-segment (k - g.nodes) area (ap (slice_get areas) (sym back) ∙ is) honest).2.clean
      ]

  its-text : (s page : ℕ) (area : D) → slice_get areas (g.nodes + s) ≡ Some area → a.honest area ≡ true → page < g.pages → text_in (a.now area) page ≡ (page_of stored (s + 1) page).text
  its-text s page area is honest within =
      let its = its-segment s area is honest in
      let rests : RestsAt a its.0 area page = its.2.rests page within in
      settled_reads (a.now area) (a.dirty area) page (entry_text (entry_at its.0.texts page)) ((fits.each (g.nodes + s) area is).bytes honest) rests.settled
      ∙ ap (λ (p : RecoveredPage). p.text) (sym (page-is s page its.0 its.1 within))

  its-reads : (s page : ℕ) (area : D) → slice_get areas (g.nodes + s) ≡ Some area → a.honest area ≡ true → page < g.pages
      → page_in (a.now area) page ≡ record { sequence = (page_of stored (s + 1) page).text.seq; content = (page_of stored (s + 1) page).bytes }
  its-reads s page area is honest within =
      let its = its-segment s area is honest in
      let rests : RestsAt a its.0 area page = its.2.rests page within in
      same_area_page (page_in (a.now area) page) (record { sequence = (page_of stored (s + 1) page).text.seq; content = (page_of stored (s + 1) page).bytes })
      (ap (λ (t : PageText). t.seq) (its-text s page area is honest within))
      (rests.content ∙ ap (λ (p : RecoveredPage). p.bytes) (sym (page-is s page its.0 its.1 within)))

  are-finished : AreFinished a stored
  are-finished k area is honest =
      let there : (s : ℕ) → k ≡ g.nodes + s → slice_get areas (g.nodes + s) ≡ Some area = λ s at. ap (slice_get areas) (sym at) ∙ is in
      record {
        clean = its-clean k area is honest;
        closed = λ log. (its-log k area log is honest).closed;
        texts = λ s page at. its-text s page area (there s at) honest;
        reads = λ s page at. its-reads s page area (there s at) honest;
      }

  is-made : IsMade a stored
  is-made = record {
    store = store;
    content = whole.content;
    numbers = whole.numbers;
    merges = whole.result.merges;
    readable = readable g logs store texts whole.result.merges.1 whole.pages.shape whole.pages.shapes whole.result.long;
    sequences = its-number;
    small = its-small;
    renewed = renewed;
    all = λ honest. done-merges a g f areas fits honest logs store texts whole;
  }

  -- whatever the areas are
  pub made : (r : RecoveredStore D) → r ≡ stored → IsMade a r
  made r is = subst (λ (x : RecoveredStore D). IsMade a x) (sym is) is-made

  -- and each of its areas by itself
  pub areas_finished : (r : RecoveredStore D) → r ≡ stored → AreFinished a r
  areas_finished r is = subst (λ (x : RecoveredStore D). AreFinished a x) (sym is) are-finished

  -- which are as long as its geometry says
  pub areas_long : (r : RecoveredStore D) → r ≡ stored → HaveLengths a r.geometry r.areas
  areas_long r is = subst (λ (x : RecoveredStore D). HaveLengths a x.geometry x.areas) (sym is) (have-lengths a g (Done f) areas fits)

-- What is kept after the last page

module _ (g : Geometry) (segments : List SegmentPages) (known : List ℕ) (store : StoreText) (whole : IsWhole g segments known store) where
  number_is : (s number : ℕ) → slice_get known s ≡ Some number → (s < g.segments) × (number ≡ whole.numbers (s + 1))
  number_is s number is =
      let there : s < g.segments = omega (arith, slice_get_within known s number is, whole.result.count) in
      (there, one_item number (whole.numbers (s + 1)) (sym is ∙ whole.result.numbers_are s there))

  -- no page that was read has a greater sequence than its segment's number
  read_within : (s page : ℕ) (old : Page) → s < g.segments → slice_get (segment_of (s + 1) store.pages) page ≡ Some old → old.sequence ≤ whole.numbers (s + 1)
  read_within s page old there is =
      let most = at_most-greatest (λ (p : Page). p.sequence) (segment_of (s + 1) store.pages) page old is in
      let counted = whole.result.merges.2.counted (s + 1) (omega arith) (omega (arith, there, whole.pages.shape)) in
      omega (arith, most, counted)

  page_within : (s page : ℕ) (pages : SegmentPages) → slice_get segments s ≡ Some pages → s < g.segments → page < g.pages → (entry_at pages.texts page).stable ≤ whole.numbers (s + 1)
  page_within s page pages is there within =
      let old = get-some (segment_of (s + 1) store.pages) page (omega (arith, within, whole.pages.shapes s there)) in
      elim (whole.pages.each s page pages old.0 is old.1) [
        | inl new ↦ omega (arith, new.1.sequence)
        | inr stays ↦ omega (arith, stays.1.sequence, read_within s page old.0 there old.1)
      ]

  pub has_pages : HasPages g segments known
  has_pages = record {
    count = whole.pages.count;
    numbers_count = whole.result.count;
    entries = whole.pages.entries;
    bytes = whole.pages.bytes;
    small = λ s number is. (let its = number_is s number is in omega (arith, its.1, whole.result.small s its.0));
    within = λ s page number pages pages_are is within. (let its = number_is s number is in omega (arith, its.1, page_within s page pages pages_are its.0 within));
  }

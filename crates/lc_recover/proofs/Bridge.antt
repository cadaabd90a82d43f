-- From what a stop leaves of areas to one result.
use Rattle.std.proofs.Common.{◌≡◌, ◌⊎◌, ℕ, zero, suc, ◌+◌, ◌*◌, ◌<◌, ◌≤◌, Bool, true, false, ◌==◌, Some, None, is_some, List, [], ◌∷◌, map, length, drop, replicate, get_or, All, Contains, refl, sym, ◌∙◌, ap, subst, arith, inl, inr, eqb-true, eq-eqb}
use Rattle.std.specs.Prelude.{slice_get, slice_index_or, if◌then◌else◌}
use Rattle.std.specs.List.{AllByRecursion}
use Rattle.std.specs.Option.{unwrap_or}
use Rattle.std.proofs.Math.Numerals.{add-one}
use Rattle.std.proofs.lemmas.Bool.{cases_lt}
use Rattle.std.proofs.lemmas.List.{ext_get_or, length-map, get_or_past as past-end}
use Rattle.std.proofs.lemmas.List.Elements.{Contains-get_or, Contains-append_right}
use Rattle.std.proofs.lemmas.Option.{slice_get_within, get_or_from_slice_get, same_Some as one_item}
use Rattle.lc_disk.specs.declared.area.Area.{Ghosts}
use Rattle.lc_record.specs.Content.{Content, segment_of}
use Rattle.lc_record.specs.Marks.{counting}
use Rattle.lc_record.specs.Part.{number_in}
use Rattle.lc_record.specs.Newest.{number_or_zero, byte_from, byte_in, byte_of}
use Rattle.lc_record.specs.Record.{IsRange, Locks, Writes}
use Rattle.lc_record.specs.Words.{words_of}
use Rattle.lc_record.specs.declared.geometry.Geometry.{Geometry}
use Rattle.lc_record.specs.declared.record.Record.{Record}
use Rattle.lc_record.specs.declared.record.Lock.{Lock}
use Rattle.lc_record.specs.declared.record.RangeData.{RangeData}
use Rattle.lc_record.proofs.ListLemmas.{slice_get_some as get-some, length-counting, slice_get-map_some as get-map, slice_get-drop as get-drop, option_or_right as or-right, option_or_left as or-left, slice_get_from_map as from-map}
use Rattle.lc_log.specs.InPlace.{records_in}
use Rattle.lc_log.specs.LogText.{IsWhole as IsWholeRecord}
use Rattle.lc_log.proofs.InPlaceLemmas.{records_are}
use Rattle.lc_model.specs.Merge.{Page, StoreText, all_records, IsOutside, AreWithin, MergesTo}
use Rattle.lc_model.specs.Recovered.{HasByte, IsBehind, IsPartlyRenewed, IsPartlyReset}
use Rattle.lc_model.specs.Stored.{page_bytes}
use Rattle.lc_model.proofs.Visible.{log-of, log-known}
use Rattle.lc_page.specs.declared.page_entry.PageEntry.{PageEntry}
use Rattle.lc_recover.proofs.Images.{get-counting, get-segment, in-segment, shape-of, Left, left-of, count-segments, store-shape, page-of, count-logs, log-left}
use Rattle.lc_model.proofs.Unrefused.{renewed-merges, reset-merges}
use Rattle.lc_model.proofs.Within.{still-renewed}
use Rattle.lc_recover.specs.Pages.{page_read, pages_read, kept_page, kept_pages}
use Rattle.lc_recover.specs.Reads.{AreImages, AreHonest, AllMergeTo, HaveLengths, store_of}
use Rattle.lc_recover.specs.Shows.{ShowPages, ShowLogs, new_page}
use Rattle.lc_recover.specs.RecoveryPhase.{AreTexts, EachPage, IsWhole, IsNew, IsOld}
use Rattle.lc_recover.specs.declared.segment_pages.SegmentPages.{SegmentPages}

pub same_page : (p q : Page) → p.sequence ≡ q.sequence → p.bytes ≡ q.bytes → p ≡ q
same_page p q sequence bytes =
    ap (λ (n : ℕ). let x : Page = record { sequence = n; bytes = p.bytes } in x) sequence
    ∙ ap (λ (l : List ℕ). let x : Page = record { sequence = q.sequence; bytes = l } in x) bytes

-- Pages as they are kept

module _ (g : Geometry) (store : StoreText) (segments : List SegmentPages) (Such : ℕ → ℕ → Page → PageEntry → List ℕ → Type 0) (each : EachPage g store segments Such) where
  pub each-shape : map length store.pages ≡ replicate g.segments g.pages
  each-shape = shape-of g.segments g.pages store.pages each.shape (λ s pages is.
      let known : s < g.segments = omega (arith, slice_get_within store.pages s pages is, each.shape) in
      ap (λ (ps : List Page). length ps) (sym (get-segment store.pages s pages is))
      ∙ ap (λ (n : ℕ). length (segment_of n store.pages)) (sym (add-one s)) ∙ each.shapes s known)

  -- the page that was read
  pub old-page : (s page : ℕ) → s < g.segments → page < g.pages → (old : Page) × (slice_get (segment_of (s + 1) store.pages) page ≡ Some old)
  old-page s page known within = get-some (segment_of (s + 1) store.pages) page (omega (arith, each.shapes s known, within))

-- What a stop leaves while pages are written

module _ {D : Type 0} (a : Ghosts D) (g : Geometry) (areas : List D) (lengths : HaveLengths a g areas) (honest : AreHonest a areas) (logs : List (List ℕ)) (store : StoreText) (texts : AreTexts g logs store) (segments : List SegmentPages) where
  pub logs-same : (content : Content) (numbers : ℕ → ℕ) → ShowPages a g areas store content numbers → (images : List (List ℕ)) (are : AreImages a areas images) → (store_of g images).logs ≡ store.logs
  logs-same content numbers shows images are =
      let count : length (store_of g images).logs ≡ g.nodes = count-logs a g areas images lengths are in
      ext_get_or [] (store_of g images).logs store.logs (count ∙ sym texts.same_count) (λ log less.
      let within : log < g.nodes = omega (arith, less, count) in
      let its = left-of a g areas images lengths are log (omega (arith, within)) in
      log-left a g areas images lengths are log its within
      ∙ records_are (words_of its.image) (slice_index_or store.logs log []) (shows.logs log its.area within its.area_is (honest log its.area its.area_is) its.image its.is))

  pub partly-renewed : (Such : ℕ → ℕ → Page → PageEntry → List ℕ → Type 0) (content : Content) (numbers : ℕ → ℕ) → EachPage g store segments Such → ShowPages a g areas store content numbers
      → (images : List (List ℕ)) → AreImages a areas images → IsPartlyRenewed store (store_of g images) content numbers
  partly-renewed Such content numbers each shows images are = record {
    logs = logs-same content numbers shows images are;
    shape = store-shape a g areas images lengths are ∙ sym (each-shape g store segments Such each);
    pages = λ segment page text is.
        let its = page-of a g areas images lengths are segment page text is in
        let old = old-page g store segments Such each its.before page its.known its.within in
        let here : segment ≡ its.before + 1 = its.next ∙ sym (add-one its.before) in
        elim (shows.pages its.before page its.left.area old.0 its.left.area_is old.1 (honest (g.nodes + its.before) its.left.area its.left.area_is) its.left.image its.left.is) [
          | inl same ↦ inl (ap (λ (n : ℕ). slice_get (segment_of n store.pages) page) here ∙ old.1 ∙ ap (λ (p : Page). Some p) (sym same ∙ its.text_is))
          | inr new ↦
              let is_new : text ≡ new_page content numbers (its.before + 1) page = sym its.text_is ∙ new in
              inr (
                ap (λ (p : Page). p.sequence) is_new ∙ ap numbers (sym here),
                ap (λ (p : Page). p.bytes) is_new ∙ ap (λ (n : ℕ). page_bytes n page content) (sym here),
              )
        ];
  }

-- Records

number-locks : (segment : ℕ) (locks : List Lock) → 0 < number_or_zero segment locks → Locks segment locks
number-locks segment [] some = absurd (omega (arith, some))
number-locks segment (lock ∷ locks) some =
    elim (lock.segment == segment) as (λ b. (lock.segment == segment) ≡ b → 0 < unwrap_or (if b then Some lock.seq else number_in segment locks) 0 → (lock.segment ≡ segment) ⊎ Locks segment locks) [
      | true ↦ λ e some. inl (eqb-true lock.segment segment e)
      | false ↦ λ e some. inr (number-locks segment locks some)
    ] refl some

first-byte : (offset : ℕ) (bytes : List ℕ) → 1 ≤ length bytes → is_some (byte_from offset bytes offset) ≡ true
first-byte zero [] some = absurd (omega (arith, some))
first-byte zero (b ∷ bytes) some = refl
first-byte (suc offset) bytes some = first-byte offset bytes some

-- a range of the segment, and its first byte among those of all ranges
record HasRange (segment : ℕ) (ranges : List RangeData) : Type 0 where
  range : RangeData
  among : Contains ranges range
  of : range.segment ≡ segment
  some : 1 ≤ length range.bytes
  byte : is_some (byte_of segment range.offset ranges) ≡ true

range-of : (segment : ℕ) (ranges : List RangeData) → AllByRecursion IsRange ranges → Writes segment ranges → HasRange segment ranges
range-of segment [] each writes = absurd writes
range-of segment (range ∷ ranges) each (inl here) = record {
  range = range;
  among = (0, omega arith, refl);
  of = here;
  some = each.0.0;
  byte = or-right (byte_of segment range.offset ranges) (byte_in segment range.offset range)
      (ap (λ (b : Bool). is_some (if b then byte_from range.offset range.bytes range.offset else None)) (eq-eqb range.segment segment here) ∙ first-byte range.offset range.bytes each.0.0);
}
range-of segment (range ∷ ranges) each (inr there) =
    let one = range-of segment ranges each.1 there in
    record {
      range = one.range;
      among = Contains-append_right (range ∷ []) ranges one.range one.among;
      of = one.of;
      some = one.some;
      byte = or-left (byte_of segment one.range.offset ranges) (byte_in segment one.range.offset range) one.byte;
    }

all-contains : {A : Type 0} (P : A → Type 0) (xs : List A) → AllByRecursion P xs → (x : A) → Contains xs x → P x
all-contains P [] all x has = absurd (omega (arith, has.1))
all-contains {A} P (y ∷ ys) all x (zero, within, is) = subst P is all.0
all-contains P (y ∷ ys) all x (suc k, within, is) = all-contains P ys all.1 x (k, omega (arith, within), is)

past-segment : (store : StoreText) (segment : ℕ) (r : Record) (range : RangeData) → Contains r.ranges range → range.segment ≡ segment → 1 ≤ length range.bytes → length (segment_of segment store.pages) * 256 ≤ range.offset → IsOutside store r
past-segment store segment r range among of some past =
    let same : length (segment_of range.segment store.pages) * 256 ≡ length (segment_of segment store.pages) * 256 = ap (λ (s : ℕ). length (segment_of s store.pages) * 256) of in
    inr (range, among, omega (arith, past, some, same))

-- a record with a number of a segment has a byte of it
pub have-bytes : (g : Geometry) (logs : List (List ℕ)) (store : StoreText) → AreTexts g logs store → AreWithin store → (segment : ℕ) → All (HasByte segment (length (segment_of segment store.pages) * 256)) (all_records store)
have-bytes g logs store texts inside segment = λ k d k_in numbered.
    let from = log-of store.logs (get_or (all_records store) k d) (Contains-get_or (all_records store) k d k_in) in
    let node : from.0 < g.nodes = omega (arith, log-known store.logs from.0 (get_or (all_records store) k d) from.1, texts.same_count) in
    let whole : IsWholeRecord (get_or (all_records store) k d) = all-contains IsWholeRecord (slice_index_or store.logs from.0 []) (texts.texts from.0 node).whole (get_or (all_records store) k d) from.1 in
    let locks : Locks segment (get_or (all_records store) k d).locks = number-locks segment (get_or (all_records store) k d).locks numbered in
    let writes : Writes segment (get_or (all_records store) k d).ranges = (whole.canonical.same_segments segment).0 locks in
    let its = range-of segment (get_or (all_records store) k d).ranges whole.canonical.each_range writes in
    elim (cases_lt its.range.offset (length (segment_of segment store.pages) * 256)) [
      | inl before ↦ (its.range.offset, before, its.byte)
      | inr past ↦ absurd (inside from.0 (get_or (all_records store) k d, from.1, past-segment store segment (get_or (all_records store) k d) its.range its.among its.of its.some past))
    ]

-- Pages as they are kept

same-counting : {A : Type 0} (f h : ℕ → A) (first n : ℕ) → ((k : ℕ) → k < first + n → f k ≡ h k) → map f (counting first n) ≡ map h (counting first n)
same-counting f h first zero same = refl
same-counting {A} f h first (suc n) same =
    let here : f first ≡ h first = same first (omega arith) in
    let rest : map f (counting (first + 1) n) ≡ map h (counting (first + 1) n) = same-counting f h (first + 1) n (λ k within. same k (omega (arith, within))) in
    ap (λ (x : A). x ∷ map f (counting (first + 1) n)) here ∙ ap (λ (xs : List A). h first ∷ xs) rest

-- the store's logs, with the pages that are kept
abbrev pub with_kept : StoreText → List SegmentPages → StoreText
with_kept store segments = record { logs = store.logs; pages = map kept_pages segments }

-- a page is new, or it is as it was and no record is newer
abbrev IsNewOrOld : StoreText → Content → (ℕ → ℕ) → ℕ → ℕ → Page → Type 0
IsNewOrOld store content numbers segment page text =
    ((text.sequence ≡ numbers segment) × (text.bytes ≡ page_bytes segment page content))
    ⊎ ((slice_get (segment_of segment store.pages) page ≡ Some text) × (IsBehind store segment page text → ⊥))

module _ (g : Geometry) (segments : List SegmentPages) (known : List ℕ) (store : StoreText) (whole : IsWhole g segments known store) where
  abbrev Such : ℕ → ℕ → Page → PageEntry → List ℕ → Type 0
  Such segment page text entry bytes =
      (IsBehind store segment page text × IsNew whole.content whole.numbers segment page entry bytes)
      ⊎ ((IsBehind store segment page text → ⊥) × IsOld text entry bytes)

  kept-long : (s : ℕ) (pages : SegmentPages) → slice_get segments s ≡ Some pages → length (kept_pages pages) ≡ g.pages
  kept-long s pages is =
      length-map (counting 0 (length pages.texts)) (kept_page pages) ∙ length-counting 0 (length pages.texts) ∙ whole.pages.entries s pages is

  pub kept-shape : map length (map kept_pages segments) ≡ replicate g.segments g.pages
  kept-shape = shape-of g.segments g.pages (map kept_pages segments) (length-map segments kept_pages ∙ whole.pages.count) (λ s texts is.
      let one = from-map kept_pages segments s texts is in
      ap (λ (ps : List Page). length ps) (sym one.2) ∙ kept-long s one.0 one.1)

  pub same-shape : map length (map kept_pages segments) ≡ map length store.pages
  same-shape = kept-shape ∙ sym (each-shape g store segments Such whole.pages)

  kept-is : (segment page : ℕ) (text : Page) → slice_get (segment_of segment (map kept_pages segments)) page ≡ Some text → IsNewOrOld store whole.content whole.numbers segment page text
  kept-is segment page text is =
      let found = in-segment segment page (map kept_pages segments) text is in
      let one = from-map kept_pages segments found.before found.part found.part_is in
      let texts = from-map (kept_page one.0) (counting 0 (length one.0.texts)) page text (ap (λ (ps : List Page). slice_get ps page) one.2 ∙ found.item_is) in
      let within : page < g.pages = omega (arith, slice_get_within found.part page text found.item_is, ap (λ (ps : List Page). length ps) one.2, kept-long found.before one.0 one.1) in
      let few : page < length one.0.texts = omega (arith, within, whole.pages.entries found.before one.0 one.1) in
      let zero_more : 0 + page ≡ page = omega arith in
      let at : texts.0 ≡ page = one_item texts.0 page (sym texts.1 ∙ get-counting 0 (length one.0.texts) page few ∙ ap (λ (n : ℕ). Some n) zero_more) in
      let text_is : kept_page one.0 page ≡ text = ap (kept_page one.0) (sym at) ∙ texts.2 in
      let before : found.before < g.segments = omega (arith, slice_get_within segments found.before one.0 one.1, whole.pages.count) in
      let old = old-page g store segments Such whole.pages found.before page before within in
      let here : segment ≡ found.before + 1 = found.next ∙ sym (add-one found.before) in
      elim (whole.pages.each found.before page one.0 old.0 one.1 old.1) [
        | inl new ↦ inl (
          ap (λ (p : Page). p.sequence) (sym text_is) ∙ new.1.sequence ∙ ap whole.numbers (sym here),
          ap (λ (p : Page). p.bytes) (sym text_is) ∙ new.1.same ∙ ap (λ (n : ℕ). page_bytes n page whole.content) (sym here),
        )
        | inr stays ↦
            let as_old : text ≡ old.0 = sym text_is ∙ same_page (kept_page one.0 page) old.0 stays.1.sequence stays.1.same in
            inr (
              ap (λ (n : ℕ). slice_get (segment_of n store.pages) page) here ∙ old.1 ∙ ap (λ (p : Page). Some p) (sym as_old),
              λ behind. stays.0 (subst (λ (p : Page). IsBehind store (found.before + 1) page p) as_old (subst (λ (n : ℕ). IsBehind store n page text) here behind)),
            )
      ]

  -- the store with the pages that are kept is the store that was read, renewed
  pub kept-renewed : IsPartlyRenewed store (with_kept store segments) whole.content whole.numbers
  kept-renewed = record {
    logs = refl;
    shape = same-shape;
    pages = λ segment page text is. elim (kept-is segment page text is) [
      | inl new ↦ inr new
      | inr old ↦ inl old.0
    ];
  }

  -- and each page is new, or no record is newer
  pub kept-new_or_old : (segment page : ℕ) (text : Page) → slice_get (segment_of segment (with_kept store segments).pages) page ≡ Some text
      → (text.sequence ≡ whole.numbers segment) ⊎ ((slice_get (segment_of segment store.pages) page ≡ Some text) × (IsBehind store segment page text → ⊥))
  kept-new_or_old segment page text is = elim (kept-is segment page text is) [
    | inl new ↦ inl new.0
    | inr old ↦ inr old
  ]

-- What a stop leaves while logs are emptied

module _ {D : Type 0} (a : Ghosts D) (g : Geometry) (areas : List D) (lengths : HaveLengths a g areas) (honest : AreHonest a areas) (logs : List (List ℕ)) (store : StoreText) (texts : AreTexts g logs store) (segments : List SegmentPages) (known : List ℕ)
    (whole : IsWhole g segments known store) (shows : ShowLogs a g areas store segments) (images : List (List ℕ)) (are : AreImages a areas images) where
  one-segment : (s : ℕ) (pages : SegmentPages) (its : Left a g areas images lengths are (g.nodes + s)) → slice_get segments s ≡ Some pages → pages_read g.pages its.image ≡ kept_pages pages
  one-segment s pages its is =
      same-counting (page_read its.image) (kept_page pages) 0 g.pages (λ page within.
      shows.pages s page its.area pages its.area_is is (omega (arith, within)) (honest (g.nodes + s) its.area its.area_is) its.image its.is)
      ∙ ap (λ (n : ℕ). map (kept_page pages) (counting 0 n)) (sym (whole.pages.entries s pages is))

  pages-kept : (store_of g images).pages ≡ map kept_pages segments
  pages-kept =
      let count : length (store_of g images).pages ≡ g.segments = count-segments a g areas images lengths are in
      let kept_count : length (map kept_pages segments) ≡ g.segments = length-map segments kept_pages ∙ whole.pages.count in
      ext_get_or [] (store_of g images).pages (map kept_pages segments) (count ∙ sym kept_count) (λ s less.
      let before : s < g.segments = omega (arith, less, count) in
      let its = left-of a g areas images lengths are (g.nodes + s) (omega (arith, before)) in
      let pages = get-some segments s (omega (arith, before, whole.pages.count)) in
      get_or_from_slice_get (store_of g images).pages s (pages_read g.pages its.image) [] (get-map (pages_read g.pages) (drop g.nodes images) s its.image (get-drop g.nodes s images ∙ its.image_is))
      ∙ one-segment s pages.0 its pages.1
      ∙ sym (get_or_from_slice_get (map kept_pages segments) s (kept_pages pages.0) [] (get-map kept_pages segments s pages.0 pages.1)))

  one-log : (log : ℕ) → (slice_index_or (store_of g images).logs log [] ≡ slice_index_or store.logs log []) ⊎ (slice_index_or (store_of g images).logs log [] ≡ [])
  one-log log =
      let count : length (store_of g images).logs ≡ g.nodes = count-logs a g areas images lengths are in
      elim (cases_lt log g.nodes) [
        | inl within ↦
            let its = left-of a g areas images lengths are log (omega (arith, within)) in
            let read : slice_index_or (store_of g images).logs log [] ≡ records_in (words_of its.image) = log-left a g areas images lengths are log its within in
            (elim (shows.logs log its.area within its.area_is (honest log its.area its.area_is) its.image its.is) [
              | inl none ↦ inr (read ∙ records_are (words_of its.image) [] none)
              | inr all ↦ inl (read ∙ records_are (words_of its.image) (slice_index_or store.logs log []) all)
            ])
        | inr past ↦ inl (past-end (store_of g images).logs log [] (omega (arith, past, count)) ∙ sym (past-end store.logs log [] (omega (arith, past, texts.same_count))))
      ]

  pub partly-reset : IsPartlyReset (with_kept store segments) (store_of g images)
  partly-reset = record {
    pages = pages-kept;
    count = count-logs a g areas images lengths are ∙ sym texts.same_count;
    logs = one-log;
  }

-- One result

module _ {D : Type 0} (a : Ghosts D) (g : Geometry) (areas : List D) (logs : List (List ℕ)) (store : StoreText) (segments : List SegmentPages) where
  pub show_pages-merge : (Such : ℕ → ℕ → Page → PageEntry → List ℕ → Type 0) (content : Content) (numbers : ℕ → ℕ) → HaveLengths a g areas → AreHonest a areas → AreTexts g logs store
      → EachPage g store segments Such → MergesTo store content numbers → ShowPages a g areas store content numbers → AllMergeTo a g areas content numbers
  show_pages-merge Such content numbers lengths honest texts each merges shows images are =
      renewed-merges store (store_of g images) content numbers merges (partly-renewed a g areas lengths honest logs store texts segments Such content numbers each shows images are)

  pub show_logs-merge : (known : List ℕ) → HaveLengths a g areas → AreHonest a areas → AreTexts g logs store → (whole : IsWhole g segments known store) → ShowLogs a g areas store segments → AllMergeTo a g areas whole.content whole.numbers
  show_logs-merge known lengths honest texts whole shows images are =
      let kept : MergesTo (with_kept store segments) whole.content whole.numbers = renewed-merges store (with_kept store segments) whole.content whole.numbers whole.result.merges (kept-renewed g segments known store whole) in
      let same_texts : AreTexts g logs (with_kept store segments) = record { count = texts.count; same_count = texts.same_count; texts = texts.texts } in
      reset-merges (with_kept store segments) (store_of g images) whole.content whole.numbers kept
      (still-renewed store (with_kept store segments) whole.content whole.numbers whole.result.merges.2 refl (same-shape g segments known store whole) (kept-new_or_old g segments known store whole))
      (have-bytes g logs (with_kept store segments) same_texts kept.1)
      (partly-reset a g areas lengths honest logs store texts segments known whole shows images are)

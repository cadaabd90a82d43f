-- What a stop leaves of areas, as a store: its logs, its pages, and how it merges.
use Rattle.std.proofs.Common.{◌≡◌, ℕ, zero, suc, ◌+◌, ◌*◌, ◌<◌, ◌≤◌, Some, None, List, [], ◌∷◌, map, length, take, drop, replicate, get_or, refl, sym, ◌∙◌, ap, subst, arith, inl, inr, lt-ltb, le-ltb}
use Rattle.std.specs.Prelude.{slice_get, slice_index_or}
use Rattle.std.proofs.lemmas.Bool.{cases_lt}
use Rattle.std.proofs.lemmas.List.{length-map, length-drop, length-take-le}
use Rattle.std.proofs.lemmas.Option.{none-some, slice_get_within, slice_get_past, slice_get-get_or, get_or_from_slice_get, same_Some as one_item}
use Rattle.lc_disk.specs.Area.{IsImage}
use Rattle.lc_disk.specs.declared.area.Area.{Ghosts}
use Rattle.lc_disk.proofs.Images.{image_own}
use Rattle.lc_record.specs.Content.{Content, segment_of}
use Rattle.lc_record.specs.Marks.{counting}
use Rattle.lc_record.specs.Words.{words_of}
use Rattle.lc_record.specs.declared.geometry.Geometry.{Geometry}
use Rattle.lc_record.proofs.ListLemmas.{slice_get_some as get-some, length-counting, slice_get-map_some as get-map, slice_get-take as get-take, slice_get-drop as get-drop, slice_get_from_map as from-map}
use Rattle.lc_log.specs.InPlace.{records_in}
use Rattle.lc_model.specs.Merge.{Page, IsMerged}
use Rattle.lc_model.proofs.One.{one-result}
use Rattle.lc_recover.specs.Pages.{page_read, pages_read}
use Rattle.lc_recover.specs.Reads.{AreImages, AllMergeTo, HaveLengths, area_len, area_count, store_of}

-- Lists

pub get-counting : (first n k : ℕ) → k < n → slice_get (counting first n) k ≡ Some (first + k)
get-counting first zero k within = absurd (omega arith)
get-counting first (suc n) zero within = (let same : first ≡ first + 0 = omega arith in ap (λ (n : ℕ). Some n) same)
get-counting first (suc n) (suc k) within =
    let next : (first + 1) + k ≡ first + suc k = omega arith in
    get-counting (first + 1) n k (omega (arith, within)) ∙ ap (λ (n : ℕ). Some n) next

-- Segments

pub get-segment : {A : Type 0} (xs : List (List A)) (s : ℕ) (x : List A) → slice_get xs s ≡ Some x → segment_of (suc s) xs ≡ x
get-segment [] s x is = absurd (none-some x is)
get-segment (y ∷ ys) zero x is = one_item y x is
get-segment (y ∷ ys) (suc s) x is = get-segment ys s x is

-- an item of the part of one segment
pub record InSegment {A : Type 0} (segment place : ℕ) (xs : List (List A)) (item : A) : Type 0 where
  pub before : ℕ
  pub part : List A
  pub next : segment ≡ suc before
  pub part_is : slice_get xs before ≡ Some part
  pub item_is : slice_get part place ≡ Some item

pub in-segment : {A : Type 0} (segment place : ℕ) (xs : List (List A)) (item : A) → slice_get (segment_of segment xs) place ≡ Some item → InSegment segment place xs item
in-segment segment place [] item is = absurd (none-some item is)
in-segment zero place (x ∷ xs) item is = absurd (none-some item is)
in-segment (suc zero) place (x ∷ xs) item is = record { before = 0; part = x; next = refl; part_is = refl; item_is = is }
in-segment (suc (suc i)) place (x ∷ xs) item is =
    let one = in-segment (suc i) place xs item is in
    record { before = suc one.before; part = one.part; next = ap suc one.next; part_is = one.part_is; item_is = one.item_is }

-- so many segments, each as long
pub shape-of : {A : Type 0} (n k : ℕ) (xs : List (List A)) → length xs ≡ n → ((s : ℕ) (x : List A) → slice_get xs s ≡ Some x → length x ≡ k) → map length xs ≡ replicate n k
shape-of zero k [] count each = refl
shape-of (suc n) k [] count each = absurd (omega (arith, count))
shape-of zero k (x ∷ xs) count each = absurd (omega (arith, count))
shape-of (suc n) k (x ∷ xs) count each =
    let first : length x ≡ k = each 0 x refl in
    let others : map length xs ≡ replicate n k = shape-of n k xs (omega (arith, count)) (λ s y is. each (suc s) y is) in
    cc

-- Pages

pub length-pages_read : (pages : ℕ) (area : List ℕ) → length (pages_read pages area) ≡ pages
length-pages_read pages area = length-map (counting 0 pages) (page_read area) ∙ length-counting 0 pages

pub get-pages_read : (pages : ℕ) (area : List ℕ) (page : ℕ) → page < pages → slice_get (pages_read pages area) page ≡ Some (page_read area page)
get-pages_read pages area page within =
    let same : 0 + page ≡ page = omega arith in
    get-map (page_read area) (counting 0 pages) page page (get-counting 0 pages page within ∙ ap (λ (n : ℕ). Some n) same)

-- The lengths of areas

pub len-none : (g : Geometry) (k : ℕ) → area_count g ≤ k → area_len g k ≡ None
len-none g k past =
    let not_log : g.nodes ≤ k = omega (arith, past) in
    rw (le-ltb k g.nodes not_log, le-ltb k (g.nodes + g.segments) past) refl

pub len-segment : (g : Geometry) (k : ℕ) → g.nodes ≤ k → k < area_count g → area_len g k ≡ Some (2 * 272 * g.pages)
len-segment g k past within = rw (le-ltb k g.nodes past, lt-ltb k (g.nodes + g.segments) within) refl

pub len-log : (g : Geometry) (k : ℕ) → k < g.nodes → area_len g k ≡ Some (8 * (g.words + 1))
len-log g k within = rw (lt-ltb k g.nodes within) refl

pub len-some : (g : Geometry) (k : ℕ) → k < area_count g → (n : ℕ) × (area_len g k ≡ Some n)
len-some g k within =
    elim (cases_lt k g.nodes) [
      | inl log ↦ (8 * (g.words + 1), len-log g k log)
      | inr segment ↦ (2 * 272 * g.pages, len-segment g k segment within)
    ]

module _ {D : Type 0} (a : Ghosts D) where
  -- the areas hold bytes
  abbrev pub HoldBytes : List D → Type 0
  HoldBytes areas = (area : ℕ) (device : D) → slice_get areas area ≡ Some device → (at : ℕ) → slice_index_or (a.now device) at 0 < 256

  pub own-image : (areas : List D) → HoldBytes areas → AreImages a areas (map a.now areas)
  own-image areas fits = record {
    count = length-map areas a.now;
    each = λ area device is.
        let own : get_or (map a.now areas) area [] ≡ a.now device = get_or_from_slice_get (map a.now areas) area (a.now device) [] (get-map a.now areas area device is) in
        subst (λ (image : List ℕ). IsImage (a.now device) (a.dirty device) image) (sym own) (image_own (a.now device) (a.dirty device) (fits area device is));
  }

  pub count-areas : (g : Geometry) (areas : List D) → HaveLengths a g areas → length areas ≡ area_count g
  count-areas g areas lengths =
      let lens : List ℕ = map (λ d. length (a.now d)) areas in
      let count : length (map (λ d. length (a.now d)) areas) ≡ length areas = length-map areas (λ d. length (a.now d)) in
      elim (cases_lt (length areas) (area_count g)) [
        | inl fewer ↦
            let there = len-some g (length areas) fewer in
            absurd (none-some there.0 (sym (slice_get_past lens (length areas) (omega (arith, count))) ∙ lengths (length areas) ∙ there.1))
        | inr not_fewer ↦
            (elim (cases_lt (area_count g) (length areas)) [
              | inl more ↦
                  let there = get-some lens (area_count g) (omega (arith, count, more)) in
                  absurd (none-some there.0 (sym (len-none g (area_count g) (omega arith)) ∙ sym (lengths (area_count g)) ∙ there.1))
              | inr not_more ↦ omega (arith, not_fewer, not_more)
            ])
      ]

  module _ (g : Geometry) (areas : List D) (images : List (List ℕ)) (lengths : HaveLengths a g areas) (are : AreImages a areas images) where
    pub count-images : length images ≡ area_count g
    count-images = are.count ∙ count-areas g areas lengths

    -- an area, and what the stop leaves of it
    pub record Left (k : ℕ) : Type 0 where
      pub area : D
      pub image : List ℕ
      pub area_is : slice_get areas k ≡ Some area
      pub image_is : slice_get images k ≡ Some image
      pub is : IsImage (a.now area) (a.dirty area) image

    pub left-of : (k : ℕ) → k < area_count g → Left k
    left-of k within =
        let device = get-some areas k (omega (arith, within, count-areas g areas lengths)) in
        record {
          area = device.0;
          image = get_or images k [];
          area_is = device.1;
          image_is = slice_get-get_or images k [] (omega (arith, within, count-images));
          is = are.each k device.0 device.1;
        }

    pub count-segments : length (store_of g images).pages ≡ g.segments
    count-segments = length-map (drop g.nodes images) (pages_read g.pages) ∙ omega (arith, length-drop g.nodes images, count-images)

    pub store-shape : map length (store_of g images).pages ≡ replicate g.segments g.pages
    store-shape = shape-of g.segments g.pages (store_of g images).pages count-segments (λ s pages is.
        let one = from-map (pages_read g.pages) (drop g.nodes images) s pages is in
        ap (λ (ps : List Page). length ps) (sym one.2) ∙ length-pages_read g.pages one.0)

    -- a page of what they read as
    pub record PageOf (segment page : ℕ) (text : Page) : Type 0 where
      pub before : ℕ
      pub next : segment ≡ suc before
      pub known : before < g.segments
      pub within : page < g.pages
      pub left : Left (g.nodes + before)
      pub text_is : page_read left.image page ≡ text

    pub page-of : (segment page : ℕ) (text : Page) → slice_get (segment_of segment (store_of g images).pages) page ≡ Some text → PageOf segment page text
    page-of segment page text is =
        let found = in-segment segment page (store_of g images).pages text is in
        let known : found.before < g.segments = omega (arith, slice_get_within (store_of g images).pages found.before found.part found.part_is, count-segments) in
        let its = left-of (g.nodes + found.before) (omega (arith, known)) in
        let one = from-map (pages_read g.pages) (drop g.nodes images) found.before found.part found.part_is in
        let same : one.0 ≡ its.image = one_item one.0 its.image (sym one.1 ∙ get-drop g.nodes found.before images ∙ its.image_is) in
        let read : slice_get (pages_read g.pages its.image) page ≡ Some text = ap (λ (image : List ℕ). slice_get (pages_read g.pages image) page) (sym same) ∙ ap (λ (ps : List Page). slice_get ps page) one.2 ∙ found.item_is in
        let within : page < g.pages = omega (arith, slice_get_within (pages_read g.pages its.image) page text read, length-pages_read g.pages its.image) in
        record {
          before = found.before;
          next = found.next;
          known = known;
          within = within;
          left = its;
          text_is = one_item (page_read its.image page) text (sym (get-pages_read g.pages its.image page within) ∙ read);
        }

    pub count-logs : length (store_of g images).logs ≡ g.nodes
    count-logs =
        length-map (take g.nodes images) (λ bytes. records_in (words_of bytes))
        ∙ length-take-le g.nodes images (omega (arith, count-images))

    -- the log of a node
    pub log-left : (log : ℕ) (its : Left log) → log < g.nodes → slice_index_or (store_of g images).logs log [] ≡ records_in (words_of its.image)
    log-left log its within =
        get_or_from_slice_get (store_of g images).logs log (records_in (words_of its.image)) []
        (get-map (λ bytes. records_in (words_of bytes)) (take g.nodes images) log its.image (get-take g.nodes log images within ∙ its.image_is))

  -- one result of all images is one result of the images of others
  pub same-result : (g : Geometry) (areas laters : List D) (content other : Content) (numbers others : ℕ → ℕ) → HaveLengths a g areas → HoldBytes areas → HaveLengths a g laters
      → AllMergeTo a g areas content numbers → AllMergeTo a g areas other others → AllMergeTo a g laters content numbers → AllMergeTo a g laters other others
  same-result g areas laters content other numbers others lengths fits long first second later images are =
      let own = own-image areas fits in
      let one = one-result (store_of g (map a.now areas)) content other numbers others (first (map a.now areas) own).2 (second (map a.now areas) own).2 in
      let merges = later images are in
      let same_count : length (store_of g images).pages ≡ length (store_of g (map a.now areas)).pages = count-segments g laters images long are ∙ sym (count-segments g areas (map a.now areas) lengths own) in
      let is : IsMerged (store_of g images) other numbers = subst (λ (c : Content). IsMerged (store_of g images) c numbers) one.0 merges.2 in (
        merges.0,
        merges.1,
        record {
          not_twice = is.not_twice;
          no_gap = is.no_gap;
          shape = is.shape;
          bytes = is.bytes;
          counted = λ segment some last. sym (one.1 segment some (omega (arith, last, same_count))) ∙ is.counted segment some last;
        },
      )

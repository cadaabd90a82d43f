-- Areas of zeros: logs without a record, and pages that were never written.
use Rattle.std.proofs.Common.{◌≡◌, ℕ, zero, suc, ◌+◌, ◌-◌, ◌*◌, ◌%◌, ◌<◌, ◌≤◌, ◌≢◌, Bool, false, List, [], ◌∷◌, map, take, drop, length, replicate, Some, refl, sym, ap, subst, ◌∙◌, arith}
use Rattle.std.specs.Prelude.{◌&&◌, ◌==◌, ◌^◌, nat_lt, nat_le, slice_get, slice_index, slice_index_or}
use Rattle.std.specs.List.{list_all}
use Rattle.std.proofs.lemmas.List.{drop-replicate, length-drop, length-replicate, length-take-le}
use Rattle.std.proofs.lemmas.Option.{slice_get_within, same_Some as one_item}
use Rattle.lc_disk.specs.declared.area.Area.{Ghosts}
use Rattle.lc_disk.proofs.Images.{image_clean}
use Rattle.lc_record.specs.Marks.{counting}
use Rattle.lc_record.specs.Words.{words_of}
use Rattle.lc_record.specs.declared.geometry.Geometry.{Geometry}
use Rattle.lc_record.specs.declared.record.Record.{Record}
use Rattle.lc_record.proofs.ListLemmas.{length-counting, slice_get-map_some as get-map, slice_get-take as get-take, slice_get-drop as get-drop}
use Rattle.lc_log.specs.InPlace.{records_in}
use Rattle.lc_log.proofs.InPlaceLemmas.{records_are}
use Rattle.lc_log.proofs.LogLemmas.{at_rest_none, text_at_rest}
use Rattle.lc_page.specs.Page.{Page as PageOfSlots, chosen_slot, is_open, no_page, page_at, page_in, sequence_of, slot_at, slot_bytes}
use Rattle.lc_page.specs.declared.slot.Slot.{Slot}
use Rattle.lc_page.specs.declared.slot.Slot.TheVariants.{First, Second}
use Rattle.lc_model.specs.Merge.{Page, StoreText, MergesTo}
use Rattle.lc_model.specs.Recovered.{zero_content, zero_store}
use Rattle.lc_model.proofs.Unrefused.{zeros-merge}
use Rattle.lc_recover.specs.Pages.{page_read, pages_read}
use Rattle.lc_recover.specs.Reads.{AllMergeTo, AreImages, AreZeros, HaveLengths, area_count, area_len, store_of}
use Rattle.lc_recover.proofs.Images.{count-images, left-of, len-log}

-- Zeros

abbrev zeros : ℕ → List ℕ
zeros n = replicate n 0

zeros_taken : (n m : ℕ) → (k : ℕ) × (take n (zeros m) ≡ zeros k)
zeros_taken zero m = (0, refl)
zeros_taken (suc n) zero = (0, refl)
zeros_taken (suc n) (suc m) = (let rest = zeros_taken n m in (suc rest.0, ap (λ l. 0 ∷ l) rest.1))

zeros_front : (k : ℕ) → slice_index_or (zeros k) 0 0 ≡ 0
zeros_front zero = refl
zeros_front (suc k) = refl

same_each : {A B : Type 0} (f : A → B) (y : B) (xs : List A) (n : ℕ) → length xs ≡ n → ((k : ℕ) (x : A) → slice_get xs k ≡ Some x → f x ≡ y) → map f xs ≡ replicate n y
same_each f y [] zero len each = refl
same_each f y [] (suc n) len each = absurd (omega (arith, len))
same_each f y (x ∷ xs) zero len each = absurd (omega (arith, len))
same_each f y (x ∷ xs) (suc n) len each =
    ap (λ z. z ∷ map f xs) (each 0 x refl) ∙ ap (λ l. y ∷ l) (same_each f y xs n (omega (arith, len)) (λ k z there. each (suc k) z there))

-- A log without a record

zeros_begin : (n : ℕ) → 8 ≤ length (zeros n) → slice_index (zeros n) 0 % 256 ≢ 165
zeros_begin zero long = absurd (omega (arith, long))
zeros_begin (suc n) long = λ same. absurd cc

zero_log : (n : ℕ) → 8 ≤ length (zeros n) → records_in (words_of (zeros n)) ≡ []
zero_log n long = records_are (words_of (zeros n)) [] (text_at_rest (zeros n) (λ k. false) 0 [] (at_rest_none (zeros n) (λ k. false) long (zeros_begin n long) refl))

-- A page that was never written

shut : (slot : List ℕ) → slice_index_or slot 0 0 ≡ 0 → is_open slot ≡ false
unfolding is_open
shut slot front = ap (λ (n : ℕ). (n == 165) && list_all (λ b. b == 0) (take 7 (drop 1 slot)) && nat_le (sequence_of slot) (2 ^ 60)) front

zero_slot : (n page : ℕ) (slot : Slot) → is_open (slot_bytes (zeros n) page slot) ≡ false
zero_slot n page slot =
    let left = zeros_taken 272 (n - slot_at page slot) in
    shut (slot_bytes (zeros n) page slot)
    (ap (λ l. slice_index_or (take 272 l) 0 0) (drop-replicate (slot_at page slot) n 0) ∙ ap (λ l. slice_index_or l 0 0) left.1 ∙ zeros_front left.0)

zero_page : (n page : ℕ) → page_in (zeros n) page ≡ no_page
zero_page n page =
    let slots : Slot → List ℕ = slot_bytes (zeros n) page in
    let newer : Bool = nat_lt (sequence_of (slots First)) (sequence_of (slots Second)) in
    ap (page_at slots)
    (ap (λ (b : Bool). chosen_slot b (is_open (slots Second)) newer) (zero_slot n page First)
    ∙ ap (λ (b : Bool). chosen_slot false b newer) (zero_slot n page Second))

abbrev unwritten : Page
unwritten = record { sequence = 0; bytes = replicate 256 0 }

zero_pages : (n pages : ℕ) → pages_read pages (zeros n) ≡ replicate pages unwritten
zero_pages n pages = same_each (page_read (zeros n)) unwritten (counting 0 pages) pages (length-counting 0 pages)
    (λ k page there. ap (λ (p : PageOfSlots). record { sequence = p.sequence; bytes = p.content }) (zero_page n page))

-- All areas

module _ {D : Type 0} (a : Ghosts D) (g : Geometry) (areas : List D) (lengths : HaveLengths a g areas) (blank : AreZeros a areas) (images : List (List ℕ)) (are : AreImages a areas images) where
  -- whatever a stop leaves of an area
  image_zeros : (k : ℕ) (image : List ℕ) → k < area_count g → slice_get images k ≡ Some image → (n : ℕ) × (image ≡ zeros n) × (area_len g k ≡ Some n)
  image_zeros k image within there =
      let its = left-of a g areas images lengths are k within in
      let zero_now = blank k its.area its.area_is in
      let same : image ≡ its.image = one_item image its.image (sym there ∙ its.image_is) in
      let long : area_len g k ≡ Some (length (a.now its.area)) = sym (lengths k) ∙ get-map (λ d. length (a.now d)) areas k its.area its.area_is in
      (length (a.now its.area), same ∙ image_clean (a.now its.area) (a.dirty its.area) zero_now.1 its.image its.is ∙ zero_now.0, long)

  logs_empty : (store_of g images).logs ≡ replicate g.nodes []
  logs_empty = same_each (λ bytes. records_in (words_of bytes)) [] (take g.nodes images) g.nodes
      (length-take-le g.nodes images (omega (arith, count-images a g areas images lengths are)))
      (λ k image there.
      let within : k < g.nodes = omega (arith, slice_get_within (take g.nodes images) k image there, length-take-le g.nodes images (omega (arith, count-images a g areas images lengths are))) in
      let its = image_zeros k image (omega (arith, within)) (sym (get-take g.nodes k images within) ∙ there) in
      let long : its.0 ≡ 8 * (g.words + 1) = one_item its.0 (8 * (g.words + 1)) (sym its.2 ∙ len-log g k within) in
      ap (λ bytes. records_in (words_of bytes)) its.1 ∙ zero_log its.0 (omega (arith, length-replicate {A = ℕ} its.0 0, long)))

  pages_unwritten : (store_of g images).pages ≡ replicate g.segments (replicate g.pages unwritten)
  pages_unwritten = same_each (pages_read g.pages) (replicate g.pages unwritten) (drop g.nodes images) g.segments
      (omega (arith, length-drop g.nodes images, count-images a g areas images lengths are))
      (λ k image there.
      let within : k < g.segments = omega (arith, slice_get_within (drop g.nodes images) k image there, length-drop g.nodes images, count-images a g areas images lengths are) in
      let its = image_zeros (g.nodes + k) image (omega (arith, within)) (sym (get-drop g.nodes k images) ∙ there) in
      ap (pages_read g.pages) its.1 ∙ zero_pages its.0 g.pages)

  reads_zeros : store_of g images ≡ zero_store g
  reads_zeros =
      ap (λ (logs : List (List Record)). record { logs = logs; pages = (store_of g images).pages }) logs_empty
      ∙ ap (λ (pages : List (List Page)). record { logs = replicate g.nodes []; pages = pages }) pages_unwritten

pub zeros_all_merge : {D : Type 0} (a : Ghosts D) (g : Geometry) (areas : List D) → HaveLengths a g areas → AreZeros a areas → AllMergeTo a g areas (zero_content g) (λ segment. 0)
zeros_all_merge a g areas lengths blank images are =
    subst (λ (store : StoreText). MergesTo store (zero_content g) (λ segment. 0)) (sym (reads_zeros a g areas lengths blank images are)) (zeros-merge g)

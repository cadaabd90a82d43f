-- What a stop leaves in each state, and how a call of the device leads from one state to the next.
use Rattle.std.proofs.Common.{◌≡◌, ◌≢◌, ◌⊎◌, ℕ, ◌+◌, ◌*◌, ◌<◌, ◌≤◌, Bool, true, false, Option, Some, List, [], ◌∷◌, length, get_or, set, drop, sym, ◌∙◌, ap, subst, inl, inr, arith, length-drop}
use Rattle.std.proofs.lemmas.Bool.{cases_eq, cases_lt, eqb-true, eqb-false}
use Rattle.std.proofs.lemmas.List.{ext_get_or, get_or-drop, get_or_past}
use Rattle.lc_disk.specs.Area.{IsImage, IsSameOutside, BecomeDirty, overlaid}
use Rattle.lc_disk.specs.declared.area.Area.{Ghosts}
use Rattle.lc_page.specs.declared.slot.Slot.{Slot}
use Rattle.lc_page.specs.declared.slot.Slot.TheVariants.{First, Second}
use Rattle.lc_page.specs.declared.page_text.PageText.{PageText}
use Rattle.lc_page.specs.declared.draft.Draft.{Draft}
use Rattle.lc_page.specs.Slot.{number_of, other, next_slot}
use Rattle.lc_page.specs.Page.{Page, slot_at, slot_bytes, has_gate, sequence_of, is_open, page_of_slot, present_slot, page_at, page_of, text_of, page_in, text_in}
use Rattle.lc_page.specs.PageVector.{gate_of, settled_text}
use Rattle.lc_page.specs.PageWrite.{behind_gate, closing_bytes, drafted, alone, IsSlotImage, EachImage, IsSettled, IsNext, IsBegun, IsBeside, IsClosing, IsClosed, IsFilling, IsFilled, IsTorn, IsOpening, IsEither, Shows, SameInside, SameOutside, Writes}
use Rattle.lc_disk.proofs.Outside.{overlaid_get}
use Rattle.lc_page.proofs.SlotLemmas.{number_small, slot_get, slot_short, slot_length, slot_same_length, slot_fits, slot_image, slot_itself, laid, laid_bytes, laid_image, SameSlot, same_slot, kept_bytes, kept_image, unwritten, other_kept, outside_kept, nothing_written, all_kept, clean_image, clean_gate, gate_and_behind, behind_image}
use Rattle.lc_page.proofs.PageLemmas.{shut, only_other, not_present, newer_wins, next_is_free, made_text, gates_get, two, two_here, two_there, each_slot, same_page, same_text, gate_is, two_gates, written_gates, written_open, written_page}

-- each image of an area has this page, where each of the two slots has
area_images : (now : List ℕ) (dirty : ℕ → Bool) (page : ℕ) (P : Page → Type 0) → EachImage now dirty page (λ slots. P (page_of slots)) → (image : List ℕ) → IsImage now dirty image → P (page_in image page)
area_images now dirty page P each image is = each (slot_bytes image page) (λ slot. slot_image now dirty image page slot is)

-- a page with nothing dirty is settled
pub clean_settled : (now : List ℕ) (dirty : ℕ → Bool) (page : ℕ) → ((slot : Slot) (k : ℕ) → k < 272 → dirty (slot_at page slot + k) ≡ false)
    → IsSettled now dirty page (text_in now page)
clean_settled now dirty page clean = record {
  text_is = λ slots are. same_text slots (slot_bytes now page) (λ slot. clean_image now dirty page slot (slots slot) (clean slot) (are slot));
  page_is = λ slots are. same_page slots (slot_bytes now page) (λ slot. clean_image now dirty page slot (slots slot) (clean slot) (are slot));
}

-- a page of which each image of the area says this is settled
pub images_settled : (now : List ℕ) (dirty : ℕ → Bool) (page : ℕ) (text : PageText) → (2 * page + 2) * 272 ≤ length now → ((k : ℕ) → get_or now k 0 < 256)
    → ((image : List ℕ) → IsImage now dirty image → (text_in image page ≡ text) × (page_in image page ≡ page_in now page)) → IsSettled now dirty page text
images_settled now dirty page text room fits each =
    let one : (slots : Slot → List ℕ) → ((slot : Slot) → IsSlotImage now dirty page slot (slots slot)) → (text_of slots ≡ text) × (page_of slots ≡ page_in now page) =
    λ slots are.
    let long : (slot : Slot) → length (slots slot) ≡ 272 = λ slot. (are slot).same_length ∙ slot_length now page slot room in
    let bytes : (slot : Slot) → slots slot ≡ slot_bytes (laid now page slots) page slot = λ slot. sym (laid_bytes now page slots room long slot) in
    let whole = each (laid now page slots) (laid_image now dirty page slots room fits are) in
    (same_text slots (slot_bytes (laid now page slots) page) bytes ∙ whole.0, same_page slots (slot_bytes (laid now page slots) page) bytes ∙ whole.1) in
    record {
      text_is = λ slots are. (one slots are).0;
      page_is = λ slots are. (one slots are).1;
    }

-- a settled page reads so, and in each image
pub settled_reads : (now : List ℕ) (dirty : ℕ → Bool) (page : ℕ) (text : PageText) → ((k : ℕ) → get_or now k 0 < 256) → IsSettled now dirty page text → text_in now page ≡ text
settled_reads now dirty page text fits is = is.text_is (slot_bytes now page) (λ slot. slot_itself now dirty page slot (slot_fits now page slot fits))

pub settled_images : (now : List ℕ) (dirty : ℕ → Bool) (page : ℕ) (text : PageText) → IsSettled now dirty page text
    → (image : List ℕ) → IsImage now dirty image → (text_in image page ≡ text) × (page_in image page ≡ page_in now page)
settled_images now dirty page text is image of =
    let are : (slot : Slot) → IsSlotImage now dirty page slot (slot_bytes image page slot) = λ slot. slot_image now dirty image page slot of in
    (is.text_is (slot_bytes image page) are, is.page_is (slot_bytes image page) are)

-- what is done beside a page

-- keeps the page and its text
pub kept_page : (page : ℕ) (now later : List ℕ) (dirty soiled : ℕ → Bool) → SameInside page now dirty later soiled → (page_in later page ≡ page_in now page) × (text_in later page ≡ text_in now page)
kept_page page now later dirty soiled s =
    let bytes : (slot : Slot) → slot_bytes later page slot ≡ slot_bytes now page slot = λ slot. kept_bytes page slot now later dirty soiled (same_slot page slot now later dirty soiled s) in
    (same_page (slot_bytes later page) (slot_bytes now page) bytes, same_text (slot_bytes later page) (slot_bytes now page) bytes)

-- and what a stop may leave of it
pub kept_images : (page : ℕ) (now later : List ℕ) (dirty soiled : ℕ → Bool) → (2 * page + 2) * 272 ≤ length now → ((k : ℕ) → get_or now k 0 < 256) → SameInside page now dirty later soiled
    → (image : List ℕ) → IsImage later soiled image → (before : List ℕ) × IsImage now dirty before × (page_in image page ≡ page_in before page) × (text_in image page ≡ text_in before page)
kept_images page now later dirty soiled room fits s image is =
    let slots : Slot → List ℕ = slot_bytes image page in
    let are : (slot : Slot) → IsSlotImage now dirty page slot (slots slot) =
    λ slot. kept_image page slot now later dirty soiled (same_slot page slot now later dirty soiled s) (slots slot) (slot_image later soiled image page slot is) in
    let long : (slot : Slot) → length (slots slot) ≡ 272 = λ slot. (are slot).same_length ∙ slot_length now page slot room in
    let bytes : (slot : Slot) → slots slot ≡ slot_bytes (laid now page slots) page slot = λ slot. sym (laid_bytes now page slots room long slot) in (
      laid now page slots,
      laid_image now dirty page slots room fits are,
      same_page slots (slot_bytes (laid now page slots) page) bytes,
      same_text slots (slot_bytes (laid now page slots) page) bytes,
    )

module _ (now later : List ℕ) (dirty soiled : ℕ → Bool) where
  pub kept_settled : (page : ℕ) (text : PageText) → SameInside page now dirty later soiled → IsSettled now dirty page text → IsSettled later soiled page text
  kept_settled page text s is =
      let bytes : (slot : Slot) → slot_bytes later page slot ≡ slot_bytes now page slot = λ slot. kept_bytes page slot now later dirty soiled (same_slot page slot now later dirty soiled s) in
      let same : page_in later page ≡ page_in now page = same_page (slot_bytes later page) (slot_bytes now page) bytes in
      let before : (slots : Slot → List ℕ) → ((slot : Slot) → IsSlotImage later soiled page slot (slots slot)) → (slot : Slot) → IsSlotImage now dirty page slot (slots slot) =
      λ slots are slot. kept_image page slot now later dirty soiled (same_slot page slot now later dirty soiled s) (slots slot) (are slot) in
      record {
        text_is = λ slots are. is.text_is slots (before slots are);
        page_is = λ slots are. is.page_is slots (before slots are) ∙ sym same;
      }

  module _ (draft : Draft) (text : PageText) (old : Page) where
    kept_beside : SameSlot draft.page (other draft.slot) now dirty later soiled → IsBeside now dirty draft text old → IsBeside later soiled draft text old
    kept_beside s is =
        let bytes = kept_bytes draft.page (other draft.slot) now later dirty soiled s in
        record {
          next = is.next;
          sequence = is.sequence;
          two_gates = is.two_gates;
          fits = λ k. subst (λ (l : List ℕ). get_or l k 0 < 256) (sym bytes) (is.fits k);
          gate = ap has_gate bytes ∙ is.gate;
          other_is = λ image of. is.other_is image (kept_image draft.page (other draft.slot) now later dirty soiled s image of);
        }

    module _ (s : SameInside draft.page now dirty later soiled) where
      here_same : SameSlot draft.page draft.slot now dirty later soiled
      here_same = same_slot draft.page draft.slot now later dirty soiled s

      there_same : SameSlot draft.page (other draft.slot) now dirty later soiled
      there_same = same_slot draft.page (other draft.slot) now later dirty soiled s

      here_bytes : slot_bytes later draft.page draft.slot ≡ slot_bytes now draft.page draft.slot
      here_bytes = kept_bytes draft.page draft.slot now later dirty soiled here_same

      pub kept_closing : IsClosing now dirty draft text old → IsClosing later soiled draft text old
      kept_closing is = record {
        beside = kept_beside there_same is.beside;
        closed = λ e. is.closed (ap (λ (l : List ℕ). get_or l 0 0) (sym here_bytes) ∙ e);
        page_is = λ slots are. is.page_is slots (λ slot. kept_image draft.page slot now later dirty soiled (same_slot draft.page slot now later dirty soiled s) (slots slot) (are slot));
      }

      pub kept_closed : IsClosed now dirty draft text old → IsClosed later soiled draft text old
      kept_closed is =
          let here : slot_at draft.page draft.slot + 0 ≡ slot_at draft.page draft.slot = omega arith in
          record {
            beside = kept_beside there_same is.beside;
            closed = λ e. is.closed (ap (λ (l : List ℕ). get_or l 0 0) (sym here_bytes) ∙ e);
            clean = subst (λ (k : ℕ). soiled k ≡ false) here (s.clean draft.slot 0 (omega arith) (ap dirty here ∙ is.clean));
          }

      pub kept_filling : IsFilling now dirty draft text old → IsFilling later soiled draft text old
      kept_filling is = record { closed = kept_closed is.closed; behind = ap (λ (l : List ℕ). drop 1 l) here_bytes ∙ is.behind }

      pub kept_filled : IsFilled now dirty draft text old → IsFilled later soiled draft text old
      kept_filled is = record { filling = kept_filling is.filling; clean = λ k above below. s.clean draft.slot k below (is.clean k above below) }

      kept_torn : IsTorn now dirty draft text old → IsTorn later soiled draft text old
      kept_torn is = record {
        beside = kept_beside there_same is.beside;
        behind = ap (λ (l : List ℕ). drop 1 l) here_bytes ∙ is.behind;
        clean = λ k above below. s.clean draft.slot k below (is.clean k above below);
      }

      pub kept_opening : IsOpening now dirty draft text old → IsOpening later soiled draft text old
      kept_opening is = record { torn = kept_torn is.torn; gate = ap (λ (l : List ℕ). get_or l 0 0) here_bytes ∙ is.gate }

-- what a stop leaves

module _ (now : List ℕ) (dirty : ℕ → Bool) (draft : Draft) (text : PageText) (old : Page) where
  closed_images : IsClosed now dirty draft text old → EachImage now dirty draft.page (λ slots. page_of slots ≡ old)
  closed_images is slots are =
      let closed : get_or (slots draft.slot) 0 0 ≢ 165 = λ e. is.closed (sym (clean_gate now dirty draft.page draft.slot (slots draft.slot) is.clean (are draft.slot)) ∙ e) in
      only_other slots draft.slot (shut (slots draft.slot) closed) ∙ is.beside.other_is (slots (other draft.slot)) (are (other draft.slot))

  -- with the gate closed the area reads the old page
  shut_reads : IsBeside now dirty draft text old → get_or (slot_bytes now draft.page draft.slot) 0 0 ≢ 165 → page_in now draft.page ≡ old
  shut_reads is closed =
      only_other (slot_bytes now draft.page) draft.slot (shut (slot_bytes now draft.page draft.slot) closed)
      ∙ is.other_is (slot_bytes now draft.page (other draft.slot)) (slot_itself now dirty draft.page (other draft.slot) is.fits)

  pub closing_shows : IsClosing now dirty draft text old → Shows now dirty draft.page (λ page. page ≡ old)
  closing_shows is = record { reads = shut_reads is.beside is.closed; images = area_images now dirty draft.page (λ (page : Page). page ≡ old) is.page_is }

  pub closed_shows : IsClosed now dirty draft text old → Shows now dirty draft.page (λ page. page ≡ old)
  closed_shows is = record { reads = shut_reads is.beside is.closed; images = area_images now dirty draft.page (λ (page : Page). page ≡ old) (closed_images is) }

  -- the page that is written is the newer one
  written_wins : (slots : Slot → List ℕ) → IsNext draft text → old.sequence ≡ text.seq → slots draft.slot ≡ 165 ∷ behind_gate draft.seq draft.bytes
      → alone (slots (other draft.slot)) ≡ old → (present_slot slots ≡ Some draft.slot) × (page_of slots ≡ drafted draft)
  written_wins slots next seq here there =
      let whole : page_of_slot (slots draft.slot) ≡ drafted draft = ap page_of_slot here ∙ written_page draft.seq draft.bytes next.small next.long in
      let opened : is_open (slots draft.slot) ≡ true = ap is_open here ∙ written_open draft.seq draft.bytes next.small in
      let below : (alone (slots (other draft.slot))).sequence < sequence_of (slots draft.slot) =
      omega (arith, ap (λ (p : Page). p.sequence) there, seq, next.newer, ap (λ (p : Page). p.sequence) whole) in
      let present : present_slot slots ≡ Some draft.slot = newer_wins slots draft.slot opened below in
      (present, ap (page_at slots) present ∙ whole)

  -- with any byte at the gate it is the new page or the old one
  either_wins : (slots : Slot → List ℕ) (byte : ℕ) → IsNext draft text → old.sequence ≡ text.seq → slots draft.slot ≡ byte ∷ behind_gate draft.seq draft.bytes
      → alone (slots (other draft.slot)) ≡ old → IsEither old (drafted draft) (page_of slots)
  either_wins slots byte next seq here there = elim (cases_eq byte 165) [
    | inl e ↦ inr (written_wins slots next seq (here ∙ ap (λ (n : ℕ). n ∷ behind_gate draft.seq draft.bytes) e) there).1
    | inr closed ↦ inl (only_other slots draft.slot (shut (slots draft.slot) (λ e. closed (sym (ap (λ (l : List ℕ). get_or l 0 0) here) ∙ e))) ∙ there)
  ]

  module _ (room : (2 * draft.page + 2) * 272 ≤ length now) (is : IsTorn now dirty draft text old) where
    whole_slot : length (slot_bytes now draft.page draft.slot) ≡ 272
    whole_slot = slot_length now draft.page draft.slot room

    torn_images : EachImage now dirty draft.page (λ slots. IsEither old (drafted draft) (page_of slots))
    torn_images slots are =
        let bytes = slot_bytes now draft.page draft.slot in
        let parts : (byte : ℕ) × (slots draft.slot ≡ byte ∷ drop 1 bytes) = behind_image now dirty draft.page draft.slot (slots draft.slot) (omega (arith, whole_slot)) is.clean (are draft.slot) in
        either_wins slots parts.0 is.beside.next is.beside.sequence (parts.1 ∙ ap (λ (l : List ℕ). parts.0 ∷ l) is.behind)
        (is.beside.other_is (slots (other draft.slot)) (are (other draft.slot)))

    torn_bytes : slot_bytes now draft.page draft.slot ≡ get_or (slot_bytes now draft.page draft.slot) 0 0 ∷ behind_gate draft.seq draft.bytes
    torn_bytes = gate_and_behind (slot_bytes now draft.page draft.slot) (omega (arith, whole_slot)) ∙ ap (λ (l : List ℕ). get_or (slot_bytes now draft.page draft.slot) 0 0 ∷ l) is.behind

    beside_reads : alone (slot_bytes now draft.page (other draft.slot)) ≡ old
    beside_reads = is.beside.other_is (slot_bytes now draft.page (other draft.slot)) (slot_itself now dirty draft.page (other draft.slot) is.beside.fits)

    pub torn_shows : Shows now dirty draft.page (IsEither old (drafted draft))
    torn_shows = record {
      reads = either_wins (slot_bytes now draft.page) (get_or (slot_bytes now draft.page draft.slot) 0 0) is.beside.next is.beside.sequence torn_bytes beside_reads;
      images = area_images now dirty draft.page (IsEither old (drafted draft)) torn_images;
    }

    -- and with the gate open the area reads the new page
    open_bytes : get_or (slot_bytes now draft.page draft.slot) 0 0 ≡ 165 → slot_bytes now draft.page draft.slot ≡ 165 ∷ behind_gate draft.seq draft.bytes
    open_bytes gate = torn_bytes ∙ ap (λ (n : ℕ). n ∷ behind_gate draft.seq draft.bytes) gate

    pub open_wins : get_or (slot_bytes now draft.page draft.slot) 0 0 ≡ 165 → (present_slot (slot_bytes now draft.page) ≡ Some draft.slot) × (page_in now draft.page ≡ drafted draft)
    open_wins gate = written_wins (slot_bytes now draft.page) is.beside.next is.beside.sequence (open_bytes gate) beside_reads

-- the first call

module _ (now : List ℕ) (dirty : ℕ → Bool) (draft : Draft) (text : PageText) (fits : (k : ℕ) → get_or now k 0 < 256) (is : IsSettled now dirty draft.page text) (next : IsNext draft text) where
  free_slot : (slots : Slot → List ℕ) → text_of slots ≡ text → present_slot slots ≢ Some draft.slot
  free_slot slots e at = next_is_free text.slot (sym (ap (λ (t : PageText). t.slot) e) ∙ at ∙ ap (λ (s : Slot). Some s) next.slot)

  itself : (slot : Slot) → IsSlotImage now dirty draft.page slot (slot_bytes now draft.page slot)
  itself slot = slot_itself now dirty draft.page slot (slot_fits now draft.page slot fits)

  reads_text : text_in now draft.page ≡ text
  reads_text = settled_reads now dirty draft.page text fits is

  settled_beside : IsBeside now dirty draft text (page_in now draft.page)
  settled_beside = record {
    next = next;
    sequence = ap (λ (t : PageText). t.seq) reads_text;
    two_gates = two_gates (slot_bytes now draft.page) text reads_text;
    fits = slot_fits now draft.page (other draft.slot) fits;
    gate = gate_is (slot_bytes now draft.page) text reads_text (other draft.slot);
    other_is = λ image of.
        let slots : Slot → List ℕ = two draft.slot (slot_bytes now draft.page draft.slot) image in
        let here : slots draft.slot ≡ slot_bytes now draft.page draft.slot = two_here draft.slot (slot_bytes now draft.page draft.slot) image in
        let there : slots (other draft.slot) ≡ image = two_there draft.slot (slot_bytes now draft.page draft.slot) image in
        let are : (slot : Slot) → IsSlotImage now dirty draft.page slot (slots slot) =
        each_slot (λ slot. IsSlotImage now dirty draft.page slot (slots slot)) draft.slot
        (subst (λ (l : List ℕ). IsSlotImage now dirty draft.page draft.slot l) (sym here) (itself draft.slot))
        (subst (λ (l : List ℕ). IsSlotImage now dirty draft.page (other draft.slot) l) (sym there) of) in
        ap alone (sym there) ∙ sym (not_present slots draft.slot (free_slot slots (is.text_is slots are))) ∙ is.page_is slots are;
  }

  reads_open : gate_of text draft.slot ≡ true → get_or (slot_bytes now draft.page draft.slot) 0 0 ≡ 165
  reads_open gate = eqb-true (get_or (slot_bytes now draft.page draft.slot) 0 0) 165 (gate_is (slot_bytes now draft.page) text reads_text draft.slot ∙ gate)

  -- with the gate closed already
  closing_closed : gate_of text draft.slot ≡ false → IsClosing now dirty draft text (page_in now draft.page)
  closing_closed closed = record {
    beside = settled_beside;
    closed = eqb-false (get_or (slot_bytes now draft.page draft.slot) 0 0) 165 (gate_is (slot_bytes now draft.page) text reads_text draft.slot ∙ closed);
    page_is = is.page_is;
  }

  -- with the gate open, at any byte
  module _ (later : List ℕ) (soiled : ℕ → Bool) (same : IsSameOutside (slot_at draft.page draft.slot) 1 now later) (soils : BecomeDirty (slot_at draft.page draft.slot) 1 dirty soiled) where
    there_kept : SameSlot draft.page (other draft.slot) now dirty later soiled
    there_kept = other_kept draft.page (slot_at draft.page draft.slot) 1 now later dirty soiled same soils draft.slot (omega arith) (omega arith)

    closing_beside : IsBeside later soiled draft text (page_in now draft.page)
    closing_beside = kept_beside now later dirty soiled draft text (page_in now draft.page) there_kept settled_beside

    -- after the gate all reads as before
    rest_same : (k : ℕ) → 0 < k → k < 272 → get_or (slot_bytes later draft.page draft.slot) k 0 ≡ get_or (slot_bytes now draft.page draft.slot) k 0
    rest_same k some below =
        slot_get later draft.page draft.slot k below
        ∙ (unwritten draft.page (slot_at draft.page draft.slot) 1 now later dirty soiled same soils (slot_at draft.page draft.slot + k) (inr (omega arith))).0
        ∙ sym (slot_get now draft.page draft.slot k below)

    rest_clean : (k : ℕ) → 0 < k → dirty (slot_at draft.page draft.slot + k) ≡ false → soiled (slot_at draft.page draft.slot + k) ≡ false
    rest_clean k some e = (unwritten draft.page (slot_at draft.page draft.slot) 1 now later dirty soiled same soils (slot_at draft.page draft.slot + k) (inr (omega arith))).1 ∙ e

    -- an image with the gate open is one of before
    open_before : gate_of text draft.slot ≡ true → (image : List ℕ) → get_or image 0 0 ≡ 165 → IsSlotImage later soiled draft.page draft.slot image → IsSlotImage now dirty draft.page draft.slot image
    open_before gate image opened of = record {
      same_length = of.same_length ∙ slot_same_length now later draft.page draft.slot same.same_length;
      bytes = of.bytes;
      stable = λ k e. elim (cases_eq k 0) [
        | inl zero ↦ subst (λ (i : ℕ). get_or image i 0 ≡ get_or (slot_bytes now draft.page draft.slot) i 0) (sym zero) (opened ∙ sym (reads_open gate))
        | inr some ↦ elim (cases_lt k 272) [
          | inl below ↦ of.stable k (rest_clean k (omega (arith, some)) e) ∙ rest_same k (omega (arith, some)) below
          | inr past ↦ get_or_past image k 0 (omega (arith, of.same_length, slot_short later draft.page draft.slot))
              ∙ sym (get_or_past (slot_bytes now draft.page draft.slot) k 0 (omega (arith, slot_short now draft.page draft.slot)))
        ]
      ];
    }

    -- and so is what is read
    same_open : gate_of text draft.slot ≡ true → get_or (slot_bytes later draft.page draft.slot) 0 0 ≡ 165 → slot_bytes later draft.page draft.slot ≡ slot_bytes now draft.page draft.slot
    same_open gate opened =
        ext_get_or 0 (slot_bytes later draft.page draft.slot) (slot_bytes now draft.page draft.slot) (slot_same_length now later draft.page draft.slot same.same_length) (λ k h. elim (cases_eq k 0) [
          | inl zero ↦ subst (λ (i : ℕ). get_or (slot_bytes later draft.page draft.slot) i 0 ≡ get_or (slot_bytes now draft.page draft.slot) i 0) (sym zero) (opened ∙ sym (reads_open gate))
          | inr some ↦ rest_same k (omega (arith, some)) (omega (arith, slot_short later draft.page draft.slot))
        ])

    closing_reads : gate_of text draft.slot ≡ true → page_in later draft.page ≡ page_in now draft.page
    closing_reads gate =
        let there : slot_bytes later draft.page (other draft.slot) ≡ slot_bytes now draft.page (other draft.slot) = kept_bytes draft.page (other draft.slot) now later dirty soiled there_kept in
        elim (cases_eq (get_or (slot_bytes later draft.page draft.slot) 0 0) 165) [
          | inl opened ↦ same_page (slot_bytes later draft.page) (slot_bytes now draft.page)
              (each_slot (λ slot. slot_bytes later draft.page slot ≡ slot_bytes now draft.page slot) draft.slot (same_open gate opened) there)
          | inr closed ↦ only_other (slot_bytes later draft.page) draft.slot (shut (slot_bytes later draft.page draft.slot) closed) ∙ ap alone there
              ∙ settled_beside.other_is (slot_bytes now draft.page (other draft.slot)) (itself (other draft.slot))
        ]

    closing_images : gate_of text draft.slot ≡ true → EachImage later soiled draft.page (λ slots. page_of slots ≡ page_in now draft.page)
    closing_images gate slots are = elim (cases_eq (get_or (slots draft.slot) 0 0) 165) [
      | inl opened ↦ is.page_is slots
          (each_slot (λ slot. IsSlotImage now dirty draft.page slot (slots slot)) draft.slot
          (open_before gate (slots draft.slot) opened (are draft.slot))
          (kept_image draft.page (other draft.slot) now later dirty soiled there_kept (slots (other draft.slot)) (are (other draft.slot))))
      | inr closed ↦ only_other slots draft.slot (shut (slots draft.slot) closed) ∙ closing_beside.other_is (slots (other draft.slot)) (are (other draft.slot))
    ]

    closing_open : gate_of text draft.slot ≡ true → get_or (slot_bytes later draft.page draft.slot) 0 0 ≢ 165 → IsClosing later soiled draft text (page_in now draft.page)
    closing_open gate closed = record { beside = closing_beside; closed = closed; page_is = closing_images gate }

-- the byte that was laid at a gate
gate_laid : (now later : List ℕ) (page : ℕ) (slot : Slot) (byte : ℕ) → (2 * page + 2) * 272 ≤ length now → later ≡ overlaid now (slot_at page slot) (byte ∷ []) → get_or (slot_bytes later page slot) 0 0 ≡ byte
gate_laid now later page slot byte room lies =
    let small : number_of slot ≤ 1 = number_small slot in
    slot_get later page slot 0 (omega arith) ∙ ap (λ (l : List ℕ). get_or l (slot_at page slot + 0) 0) lies ∙ overlaid_get now (byte ∷ []) (slot_at page slot) 0 (omega arith) (omega arith)

-- the bytes that were laid after a gate
behind_laid : (now later bytes : List ℕ) (page : ℕ) (slot : Slot) → (2 * page + 2) * 272 ≤ length now → length later ≡ length now → length bytes ≡ 271
    → later ≡ overlaid now (slot_at page slot + 1) bytes → drop 1 (slot_bytes later page slot) ≡ bytes
behind_laid now later bytes page slot room same long lies =
    let small : number_of slot ≤ 1 = number_small slot in
    let whole : length (slot_bytes later page slot) ≡ 272 = slot_length later page slot (omega arith) in
    let wide : length (drop 1 (slot_bytes later page slot)) ≡ 271 = omega (arith, length-drop 1 (slot_bytes later page slot)) in
    ext_get_or 0 (drop 1 (slot_bytes later page slot)) bytes (wide ∙ sym long) (λ i h.
    let below : i < 271 = omega (arith, wide, h) in
    let place : slot_at page slot + (1 + i) ≡ slot_at page slot + 1 + i = omega arith in
    get_or-drop 1 (slot_bytes later page slot) i 0 ∙ slot_get later page slot (1 + i) (omega arith)
    ∙ ap (λ (k : ℕ). get_or later k 0) place ∙ ap (λ (l : List ℕ). get_or l (slot_at page slot + 1 + i) 0) lies
    ∙ overlaid_get now bytes (slot_at page slot + 1) i (omega arith) (omega arith))

-- a call that laid bytes over a page, by other words for the place and for the bytes
pub writes_at : {D : Type 0} (a : Ghosts D) (page at to : ℕ) (bytes others : List ℕ) (old new : D) (ok : Bool) → at ≡ to → bytes ≡ others → Writes a page at bytes old new ok → Writes a page to others old new ok
writes_at a page at to bytes others old new ok place same call = subst (λ (l : List ℕ). Writes a page to l old new ok) same (subst (λ (k : ℕ). Writes a page k bytes old new ok) place call)

-- the second to the sixth call

module _ (now later : List ℕ) (dirty soiled : ℕ → Bool) (draft : Draft) (text : PageText) (old : Page) where
  module _ (same : later ≡ now) (clean : (k : ℕ) → soiled k ≡ false) where
    inside : SameInside draft.page now dirty later soiled
    inside = all_kept draft.page now later dirty soiled same (λ k _. clean k)

    pub synced_closing : IsClosing now dirty draft text old → IsClosed later soiled draft text old
    synced_closing is =
        let kept : IsClosing later soiled draft text old = kept_closing now later dirty soiled draft text old inside is in
        record { beside = kept.beside; closed = kept.closed; clean = clean (slot_at draft.page draft.slot) }

    pub synced_filling : IsFilling now dirty draft text old → IsFilled later soiled draft text old
    synced_filling is = record { filling = kept_filling now later dirty soiled draft text old inside is; clean = λ k above below. clean (slot_at draft.page draft.slot + k) }

    module _ (room : (2 * draft.page + 2) * 272 ≤ length later) (opening : IsOpening now dirty draft text old) where
      after : IsOpening later soiled draft text old
      after = kept_opening now later dirty soiled draft text old inside opening

      here_is : slot_bytes later draft.page draft.slot ≡ 165 ∷ behind_gate draft.seq draft.bytes
      here_is = open_bytes later soiled draft text old room after.torn after.gate

      wins : (present_slot (slot_bytes later draft.page) ≡ Some draft.slot) × (page_in later draft.page ≡ drafted draft)
      wins = open_wins later soiled draft text old room after.torn after.gate

      pub opened_page : page_in later draft.page ≡ drafted draft
      opened_page = wins.1

      opened_text : text_in later draft.page ≡ settled_text text draft.seq
      opened_text =
          let slots : Slot → List ℕ = slot_bytes later draft.page in
          let beside = after.torn.beside in
          let gates : has_gate (slots First) ∷ has_gate (slots Second) ∷ [] ≡ set text.gates (number_of draft.slot) true =
          written_gates text.gates draft.slot (has_gate (slots First)) (has_gate (slots Second)) beside.two_gates
          (gates_get slots draft.slot ∙ ap has_gate here_is) (gates_get slots (other draft.slot) ∙ beside.gate) in
          let of : List Bool → PageText = λ l. record { seq = draft.seq; slot = Some (next_slot text.slot); gates = l } in
          ap (λ (n : ℕ). made_text n (present_slot slots) (has_gate (slots First)) (has_gate (slots Second))) (ap (λ (p : Page). p.sequence) wins.1)
          ∙ ap (λ (s : Option Slot). made_text draft.seq s (has_gate (slots First)) (has_gate (slots Second))) (wins.0 ∙ ap (λ (s : Slot). Some s) beside.next.slot)
          ∙ ap of (gates ∙ ap (λ (s : Slot). set text.gates (number_of s) true) beside.next.slot)

      pub opened_settled : IsSettled later soiled draft.page (settled_text text draft.seq)
      opened_settled = subst (λ (t : PageText). IsSettled later soiled draft.page t) opened_text (clean_settled later soiled draft.page (λ slot k _. clean (slot_at draft.page slot + k)))

-- the page after the sixth call
opened_images : (now : List ℕ) (dirty : ℕ → Bool) (draft : Draft) (text : PageText) → IsSettled now dirty draft.page text → page_in now draft.page ≡ drafted draft
    → EachImage now dirty draft.page (λ slots. page_of slots ≡ drafted draft)
opened_images now dirty draft text is e slots are = is.page_is slots are ∙ e

pub opened_shows : (now : List ℕ) (dirty : ℕ → Bool) (draft : Draft) (text : PageText) → IsSettled now dirty draft.page text → page_in now draft.page ≡ drafted draft
    → Shows now dirty draft.page (λ page. page ≡ drafted draft)
opened_shows now dirty draft text is e = record { reads = e; images = area_images now dirty draft.page (λ (page : Page). page ≡ drafted draft) (opened_images now dirty draft text is e) }

-- what closes a gate
pub chosen_bytes : (gate : Bool) (bytes : List ℕ) → ((gate ≡ false) × (bytes ≡ [])) ⊎ ((gate ≡ true) × (bytes ≡ 0 ∷ [])) → bytes ≡ closing_bytes gate
chosen_bytes gate bytes choice = elim choice [ inl none ↦ none.1 ∙ ap closing_bytes (sym none.0) | inr one ↦ one.1 ∙ ap closing_bytes (sym one.0) ]

-- the writes, at a place

module _ (now later : List ℕ) (dirty soiled : ℕ → Bool) (draft : Draft) (at : ℕ) (place : at ≡ slot_at draft.page draft.slot) where
  module _ (gate : Bool) (bytes : List ℕ) (choice : ((gate ≡ false) × (bytes ≡ [])) ⊎ ((gate ≡ true) × (bytes ≡ 0 ∷ [])))
      (same : IsSameOutside at (length bytes) now later) (soils : BecomeDirty at (length bytes) dirty soiled) where
    -- nothing was written
    none_written : bytes ≡ [] → SameInside draft.page now dirty later soiled
    none_written none = nothing_written draft.page at now later dirty soiled
        (subst (λ (n : ℕ). IsSameOutside at n now later) (ap length none) same) (subst (λ (n : ℕ). BecomeDirty at n dirty soiled) (ap length none) soils)

    gate_same : bytes ≡ 0 ∷ [] → IsSameOutside (slot_at draft.page draft.slot) 1 now later
    gate_same one = subst (λ (k : ℕ). IsSameOutside k 1 now later) place (subst (λ (n : ℕ). IsSameOutside at n now later) (ap length one) same)

    gate_soils : bytes ≡ 0 ∷ [] → BecomeDirty (slot_at draft.page draft.slot) 1 dirty soiled
    gate_soils one = subst (λ (k : ℕ). BecomeDirty k 1 dirty soiled) place (subst (λ (n : ℕ). BecomeDirty at n dirty soiled) (ap length one) soils)

    module _ (text : PageText) (fits : (k : ℕ) → get_or now k 0 < 256) (is : IsSettled now dirty draft.page text) (begun : IsBegun draft gate text) where
      none_closing : gate ≡ false → bytes ≡ [] → IsClosing later soiled draft text (page_in now draft.page)
      none_closing closed none = kept_closing now later dirty soiled draft text (page_in now draft.page) (none_written none)
          (closing_closed now dirty draft text fits is begun.next (sym begun.gate ∙ closed))

      pub first_shows : Shows later soiled draft.page (λ page. page ≡ page_in now draft.page)
      first_shows = elim choice [
        | inl none ↦ closing_shows later soiled draft text (page_in now draft.page) (none_closing none.0 none.1)
        | inr one ↦ record {
          reads = closing_reads now dirty draft text fits is begun.next later soiled (gate_same one.1) (gate_soils one.1) (sym begun.gate ∙ one.0);
          images = area_images later soiled draft.page (λ (page : Page). page ≡ page_in now draft.page)
              (closing_images now dirty draft text fits is begun.next later soiled (gate_same one.1) (gate_soils one.1) (sym begun.gate ∙ one.0));
        }
      ]

      pub first_closing : (2 * draft.page + 2) * 272 ≤ length now → later ≡ overlaid now at bytes → IsClosing later soiled draft text (page_in now draft.page)
      first_closing room lies = elim choice [
        | inl none ↦ none_closing none.0 none.1
        | inr one ↦
            let laid : get_or (slot_bytes later draft.page draft.slot) 0 0 ≡ 0 =
            gate_laid now later draft.page draft.slot 0 room (subst (λ (l : List ℕ). later ≡ overlaid now (slot_at draft.page draft.slot) l) one.1 (subst (λ (k : ℕ). later ≡ overlaid now k bytes) place lies)) in
            closing_open now dirty draft text fits is begun.next later soiled (gate_same one.1) (gate_soils one.1) (sym begun.gate ∙ one.0) (λ e. absurd (omega (arith, laid, e)))
      ]

    short : length bytes ≤ 1
    short = elim choice [ inl none ↦ omega (arith, ap length none.1) | inr one ↦ omega (arith, ap length one.1) ]

    pub first_outside : SameOutside draft.page now dirty later soiled
    first_outside = outside_kept draft.page at (length bytes) now later dirty soiled same soils draft.slot (omega (arith, place)) (omega (arith, place, short))

  module _ (bytes : List ℕ) (same : IsSameOutside (at + 1) (length bytes) now later) (soils : BecomeDirty (at + 1) (length bytes) dirty soiled) (wide : length bytes ≡ 271) where
    pub third_outside : SameOutside draft.page now dirty later soiled
    third_outside = outside_kept draft.page (at + 1) (length bytes) now later dirty soiled same soils draft.slot (omega (arith, place)) (omega (arith, place, wide))

    pub third_closed : (text : PageText) (old : Page) → IsClosed now dirty draft text old → IsClosed later soiled draft text old
    third_closed text old is =
        let here : (get_or later (slot_at draft.page draft.slot) 0 ≡ get_or now (slot_at draft.page draft.slot) 0) × (soiled (slot_at draft.page draft.slot) ≡ dirty (slot_at draft.page draft.slot)) =
        unwritten draft.page (at + 1) (length bytes) now later dirty soiled same soils (slot_at draft.page draft.slot) (inl (omega (arith, place))) in
        let start : slot_at draft.page draft.slot + 0 ≡ slot_at draft.page draft.slot = omega arith in
        let gate : get_or (slot_bytes later draft.page draft.slot) 0 0 ≡ get_or (slot_bytes now draft.page draft.slot) 0 0 =
        slot_get later draft.page draft.slot 0 (omega arith) ∙ ap (λ (k : ℕ). get_or later k 0) start ∙ here.0 ∙ ap (λ (k : ℕ). get_or now k 0) (sym start) ∙ sym (slot_get now draft.page draft.slot 0 (omega arith)) in
        record {
          beside = kept_beside now later dirty soiled draft text old
              (other_kept draft.page (at + 1) (length bytes) now later dirty soiled same soils draft.slot (omega (arith, place)) (omega (arith, place, wide))) is.beside;
          closed = λ e. is.closed (sym gate ∙ e);
          clean = here.1 ∙ is.clean;
        }

    pub third_filling : (text : PageText) (old : Page) → (2 * draft.page + 2) * 272 ≤ length now → IsClosed now dirty draft text old → later ≡ overlaid now (at + 1) bytes → bytes ≡ behind_gate draft.seq draft.bytes → IsFilling later soiled draft text old
    third_filling text old room is lies whole = record {
      closed = third_closed text old is;
      behind = behind_laid now later bytes draft.page draft.slot room same.same_length wide (subst (λ (k : ℕ). later ≡ overlaid now (k + 1) bytes) place lies) ∙ whole;
    }

  module _ (same : IsSameOutside at 1 now later) (soils : BecomeDirty at 1 dirty soiled) where
    pub fifth_outside : SameOutside draft.page now dirty later soiled
    fifth_outside = outside_kept draft.page at 1 now later dirty soiled same soils draft.slot (omega (arith, place)) (omega (arith, place))

    fifth_rest : (k : ℕ) → 0 < k → (get_or later (slot_at draft.page draft.slot + k) 0 ≡ get_or now (slot_at draft.page draft.slot + k) 0) × (soiled (slot_at draft.page draft.slot + k) ≡ dirty (slot_at draft.page draft.slot + k))
    fifth_rest k some = unwritten draft.page at 1 now later dirty soiled same soils (slot_at draft.page draft.slot + k) (inr (omega (arith, place)))

    pub fifth_torn : (text : PageText) (old : Page) → IsFilled now dirty draft text old → IsTorn later soiled draft text old
    fifth_torn text old is =
        let here_now = slot_bytes now draft.page draft.slot in
        let here_later = slot_bytes later draft.page draft.slot in
        let same_long : length here_later ≡ length here_now = slot_same_length now later draft.page draft.slot same.same_length in
        record {
          beside = kept_beside now later dirty soiled draft text old
              (other_kept draft.page at 1 now later dirty soiled same soils draft.slot (omega (arith, place)) (omega (arith, place))) is.filling.closed.beside;
          behind = ext_get_or 0 (drop 1 here_later) (drop 1 here_now) (omega (arith, length-drop 1 here_later, length-drop 1 here_now, same_long)) (λ i h.
              let below : 1 + i < 272 = omega (arith, length-drop 1 here_later, slot_short later draft.page draft.slot, h) in
              get_or-drop 1 here_later i 0 ∙ slot_get later draft.page draft.slot (1 + i) below ∙ (fifth_rest (1 + i) (omega arith)).0
              ∙ sym (slot_get now draft.page draft.slot (1 + i) below) ∙ sym (get_or-drop 1 here_now i 0)) ∙ is.filling.behind;
          clean = λ k above below. (fifth_rest k above).1 ∙ is.clean k above below;
        }

    pub fifth_opening : (text : PageText) (old : Page) → (2 * draft.page + 2) * 272 ≤ length now → IsFilled now dirty draft text old → later ≡ overlaid now at (165 ∷ []) → IsOpening later soiled draft text old
    fifth_opening text old room is lies = record {
      torn = fifth_torn text old is;
      gate = gate_laid now later draft.page draft.slot 165 room (subst (λ (k : ℕ). later ≡ overlaid now k (165 ∷ [])) place lies);
    }

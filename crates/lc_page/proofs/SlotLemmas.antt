-- Slots of an area, position by position, and what a stop may leave of them.
use Rattle.std.proofs.Common.{◌≡◌, ◌≢◌, ◌⊎◌, ℕ, suc, ◌+◌, ◌-◌, ◌*◌, ◌<◌, ◌≤◌, Bool, false, List, [], ◌∷◌, ◌++◌, length, get_or, take, drop, refl, sym, ◌∙◌, ap, subst, inl, inr, arith, append-nil, length-append, length-take, length-drop}
use Rattle.std.proofs.lemmas.Bool.{cases_lt}
use Rattle.std.proofs.lemmas.List.{ext_get_or, get_or-take, get_or-drop, get_or_past, get_or_append_left, get_or-append_right, length-take-le, drop_more, nil_from_length}
use Rattle.lc_disk.proofs.Outside.{same_before, same_after, overlaid_get}
use Rattle.lc_disk.specs.Area.{IsImage, IsSameOutside, BecomeDirty, overlaid}
use Rattle.lc_disk.proofs.Images.{FirstByte, only_first}
use Rattle.lc_page.specs.declared.slot.Slot.{Slot}
use Rattle.lc_page.specs.declared.slot.Slot.TheVariants.{First, Second}
use Rattle.lc_page.specs.Slot.{number_of, other}
use Rattle.lc_page.specs.Page.{slot_at, slot_bytes}
use Rattle.lc_page.specs.PageWrite.{IsSlotImage, SameInside, SameOutside, IsOutside}

pub number_small : (slot : Slot) → number_of slot ≤ 1
number_small First = omega arith
number_small Second = omega arith

pub slot_get : (area : List ℕ) (page : ℕ) (slot : Slot) (k : ℕ) → k < 272 → get_or (slot_bytes area page slot) k 0 ≡ get_or area (slot_at page slot + k) 0
slot_get area page slot k h = get_or-take 272 (drop (slot_at page slot) area) k 0 h ∙ get_or-drop (slot_at page slot) area k 0

pub slot_short : (area : List ℕ) (page : ℕ) (slot : Slot) → length (slot_bytes area page slot) ≤ 272
slot_short area page slot = omega (arith, length-take 272 (drop (slot_at page slot) area))

slot_past : (area : List ℕ) (page : ℕ) (slot : Slot) (k : ℕ) → 272 ≤ k → get_or (slot_bytes area page slot) k 0 ≡ 0
slot_past area page slot k h = get_or_past (slot_bytes area page slot) k 0 (omega (arith, slot_short area page slot))

pub slot_length : (area : List ℕ) (page : ℕ) (slot : Slot) → (2 * page + 2) * 272 ≤ length area → length (slot_bytes area page slot) ≡ 272
slot_length area page slot h = omega (arith, number_small slot, length-take 272 (drop (slot_at page slot) area), length-drop (slot_at page slot) area)

pub slot_same_length : (now later : List ℕ) (page : ℕ) (slot : Slot) → length later ≡ length now → length (slot_bytes later page slot) ≡ length (slot_bytes now page slot)
slot_same_length now later page slot e =
    omega (arith, length-take 272 (drop (slot_at page slot) now), length-drop (slot_at page slot) now, length-take 272 (drop (slot_at page slot) later), length-drop (slot_at page slot) later)

-- the slots of an area of bytes are of bytes
pub slot_fits : (now : List ℕ) (page : ℕ) (slot : Slot) → ((k : ℕ) → get_or now k 0 < 256) → (k : ℕ) → get_or (slot_bytes now page slot) k 0 < 256
slot_fits now page slot fits k = elim (cases_lt k 272) [
  | inl h ↦ subst (λ (n : ℕ). n < 256) (sym (slot_get now page slot k h)) (fits (slot_at page slot + k))
  | inr h ↦ subst (λ (n : ℕ). n < 256) (sym (slot_past now page slot k h)) (omega arith)
]

-- an image of an area has images of its slots
pub slot_image : (now : List ℕ) (dirty : ℕ → Bool) (image : List ℕ) (page : ℕ) (slot : Slot) → IsImage now dirty image → IsSlotImage now dirty page slot (slot_bytes image page slot)
slot_image now dirty image page slot is = record {
  same_length = slot_same_length now image page slot is.same_length;
  bytes = slot_fits image page slot is.bytes;
  stable = λ k e. elim (cases_lt k 272) [
    | inl h ↦ slot_get image page slot k h ∙ is.stable (slot_at page slot + k) e ∙ sym (slot_get now page slot k h)
    | inr h ↦ slot_past image page slot k h ∙ sym (slot_past now page slot k h)
  ];
}

-- what is read of a slot is an image of it
pub slot_itself : (now : List ℕ) (dirty : ℕ → Bool) (page : ℕ) (slot : Slot) → ((k : ℕ) → get_or (slot_bytes now page slot) k 0 < 256) → IsSlotImage now dirty page slot (slot_bytes now page slot)
slot_itself now dirty page slot fits = record { same_length = refl; bytes = fits; stable = λ k h. refl }

-- of one slot, all reads as before, and nothing has become dirty
pub record SameSlot (page : ℕ) (slot : Slot) (now : List ℕ) (dirty : ℕ → Bool) (later : List ℕ) (soiled : ℕ → Bool) : Type 0 where
  pub same_length : length later ≡ length now
  pub same : (k : ℕ) → k < 272 → get_or later (slot_at page slot + k) 0 ≡ get_or now (slot_at page slot + k) 0
  pub clean : (k : ℕ) → k < 272 → dirty (slot_at page slot + k) ≡ false → soiled (slot_at page slot + k) ≡ false

pub same_slot : (page : ℕ) (slot : Slot) (now later : List ℕ) (dirty soiled : ℕ → Bool) → SameInside page now dirty later soiled → SameSlot page slot now dirty later soiled
same_slot page slot now later dirty soiled s = record { same_length = s.same_length; same = s.same slot; clean = s.clean slot }

module _ (page : ℕ) (slot : Slot) (now later : List ℕ) (dirty soiled : ℕ → Bool) (s : SameSlot page slot now dirty later soiled) where
  pub kept_bytes : slot_bytes later page slot ≡ slot_bytes now page slot
  kept_bytes = ext_get_or 0 (slot_bytes later page slot) (slot_bytes now page slot) (slot_same_length now later page slot s.same_length) (λ i h.
      let below : i < 272 = omega (arith, slot_short later page slot) in
      slot_get later page slot i below ∙ s.same i below ∙ sym (slot_get now page slot i below))

  pub kept_image : (image : List ℕ) → IsSlotImage later soiled page slot image → IsSlotImage now dirty page slot image
  kept_image image is = record {
    same_length = is.same_length ∙ slot_same_length now later page slot s.same_length;
    bytes = is.bytes;
    stable = λ k e. elim (cases_lt k 272) [
      | inl h ↦ is.stable k (s.clean k h e) ∙ slot_get later page slot k h ∙ s.same k h ∙ sym (slot_get now page slot k h)
      | inr h ↦ get_or_past image k 0 (omega (arith, is.same_length, slot_short later page slot)) ∙ sym (slot_past now page slot k h)
    ];
  }

-- an area outside of a range that was written

module _ (page at n : ℕ) (now later : List ℕ) (dirty soiled : ℕ → Bool) (same : IsSameOutside at n now later) (soils : BecomeDirty at n dirty soiled) where
  -- a position that was not written
  pub unwritten : (k : ℕ) → (k < at) ⊎ (at + n ≤ k) → (get_or later k 0 ≡ get_or now k 0) × (soiled k ≡ dirty k)
  unwritten k (inl h) = (same_before at n now later same k h, soils.before k h)
  unwritten k (inr h) = (same_after at n now later same k h, soils.after k h)

  -- a write within one slot keeps the other
  pub other_kept : (slot : Slot) → slot_at page slot ≤ at → at + n ≤ slot_at page slot + 272 → SameSlot page (other slot) now dirty later soiled
  other_kept First low high = record {
    same_length = same.same_length;
    same = λ k h. (unwritten (slot_at page Second + k) (inr (omega arith))).0;
    clean = λ k h e. (unwritten (slot_at page Second + k) (inr (omega arith))).1 ∙ e;
  }
  other_kept Second low high = record {
    same_length = same.same_length;
    same = λ k h. (unwritten (slot_at page First + k) (inl (omega arith))).0;
    clean = λ k h e. (unwritten (slot_at page First + k) (inl (omega arith))).1 ∙ e;
  }

  -- a write within one slot keeps all outside of the page
  pub outside_kept : (slot : Slot) → slot_at page slot ≤ at → at + n ≤ slot_at page slot + 272 → SameOutside page now dirty later soiled
  outside_kept slot low high =
      let small : number_of slot ≤ 1 = number_small slot in
      let apart : (k : ℕ) → IsOutside page k → (k < at) ⊎ (at + n ≤ k) = λ k. λ o. elim o [ inl h ↦ inl (omega arith) | inr h ↦ inr (omega arith) ] in
      record {
        same_length = same.same_length;
        same = λ k o. (unwritten k (apart k o)).0;
        same_dirty = λ k o. (unwritten k (apart k o)).1;
      }

-- a write of nothing keeps all inside of a page
pub nothing_written : (page at : ℕ) (now later : List ℕ) (dirty soiled : ℕ → Bool) → IsSameOutside at 0 now later → BecomeDirty at 0 dirty soiled → SameInside page now dirty later soiled
nothing_written page at now later dirty soiled same soils =
    let each : (k : ℕ) → (k < at) ⊎ (at + 0 ≤ k) = λ k. elim (cases_lt k at) [ inl h ↦ inl h | inr h ↦ inr (omega arith) ] in
    record {
      same_length = same.same_length;
      same = λ slot k h. (unwritten page at 0 now later dirty soiled same soils (slot_at page slot + k) (each (slot_at page slot + k))).0;
      clean = λ slot k h e. (unwritten page at 0 now later dirty soiled same soils (slot_at page slot + k) (each (slot_at page slot + k))).1 ∙ e;
    }

-- what is outside of a page is inside of no other
pub apart_kept : (page beside : ℕ) (now later : List ℕ) (dirty soiled : ℕ → Bool) → page ≢ beside → SameOutside beside now dirty later soiled → SameInside page now dirty later soiled
apart_kept page beside now later dirty soiled other_page s =
    let far : (slot : Slot) (k : ℕ) → k < 272 → IsOutside beside (slot_at page slot + k) =
    λ slot k h. let small : number_of slot ≤ 1 = number_small slot in elim (cases_lt page beside) [ inl lower ↦ inl (omega arith) | inr higher ↦ inr (omega (arith, other_page)) ] in
    record {
      same_length = s.same_length;
      same = λ slot k h. s.same (slot_at page slot + k) (far slot k h);
      clean = λ slot k h e. s.same_dirty (slot_at page slot + k) (far slot k h) ∙ e;
    }

pub all_kept : (page : ℕ) (now later : List ℕ) (dirty soiled : ℕ → Bool) → later ≡ now → ((k : ℕ) → dirty k ≡ false → soiled k ≡ false) → SameInside page now dirty later soiled
all_kept page now later dirty soiled same kept = record {
  same_length = ap length same;
  same = λ slot k h. ap (λ (l : List ℕ). get_or l (slot_at page slot + k) 0) same;
  clean = λ slot k h e. kept (slot_at page slot + k) e;
}

-- a slot with nothing dirty has one image
pub clean_image : (now : List ℕ) (dirty : ℕ → Bool) (page : ℕ) (slot : Slot) (image : List ℕ) → ((k : ℕ) → k < 272 → dirty (slot_at page slot + k) ≡ false) → IsSlotImage now dirty page slot image → image ≡ slot_bytes now page slot
clean_image now dirty page slot image clean is = ext_get_or 0 image (slot_bytes now page slot) is.same_length (λ i h.
    is.stable i (clean i (omega (arith, is.same_length, slot_short now page slot))))

-- a slot with a clean gate has this gate in each image
pub clean_gate : (now : List ℕ) (dirty : ℕ → Bool) (page : ℕ) (slot : Slot) (image : List ℕ) → dirty (slot_at page slot) ≡ false → IsSlotImage now dirty page slot image → get_or image 0 0 ≡ get_or (slot_bytes now page slot) 0 0
clean_gate now dirty page slot image clean is =
    let here : slot_at page slot + 0 ≡ slot_at page slot = omega arith in
    is.stable 0 (ap dirty here ∙ clean)

-- a slot is its gate and what stands after it
pub gate_and_behind : (slot : List ℕ) → 0 < length slot → slot ≡ get_or slot 0 0 ∷ drop 1 slot
gate_and_behind slot some = drop_more slot 0 0 some

-- with nothing dirty after its gate, that is the same in each image
pub behind_image : (now : List ℕ) (dirty : ℕ → Bool) (page : ℕ) (slot : Slot) (image : List ℕ) → 0 < length (slot_bytes now page slot)
    → ((k : ℕ) → 0 < k → k < 272 → dirty (slot_at page slot + k) ≡ false) → IsSlotImage now dirty page slot image
    → (byte : ℕ) × (image ≡ byte ∷ drop 1 (slot_bytes now page slot))
behind_image now dirty page slot image some clean is =
    let bytes = slot_bytes now page slot in
    let split : bytes ≡ get_or bytes 0 0 ∷ (drop 1 bytes ++ []) = gate_and_behind bytes some ∙ ap (λ (l : List ℕ). get_or bytes 0 0 ∷ l) (sym (append-nil (drop 1 bytes))) in
    let is_split : IsImage (get_or bytes 0 0 ∷ (drop 1 bytes ++ [])) (λ k. dirty (slot_at page slot + k)) image =
    subst (λ (l : List ℕ). IsImage l (λ k. dirty (slot_at page slot + k)) image) split is in
    let parts : FirstByte (drop 1 bytes) [] (λ k. dirty (slot_at page slot + k)) image =
    only_first (get_or bytes 0 0) (drop 1 bytes) [] (λ k. dirty (slot_at page slot + k)) image is_split (λ k h.
    clean (suc k) (omega arith) (omega (arith, length-drop 1 bytes, slot_short now page slot))) in
    let none : parts.rest ≡ [] = nil_from_length parts.rest parts.is_image.same_length in
    (parts.byte, parts.text ∙ ap (λ (l : List ℕ). parts.byte ∷ (drop 1 bytes ++ l)) none ∙ ap (λ (l : List ℕ). parts.byte ∷ l) (append-nil (drop 1 bytes)))

-- what was not laid over an area

overlaid_length : (now bytes : List ℕ) (at : ℕ) → at + length bytes ≤ length now → length (overlaid now at bytes) ≡ length now
overlaid_length now bytes at room =
    omega (arith, length-append (take at now ++ bytes) (drop (at + length bytes) now), length-append (take at now) bytes, length-take-le at now (omega arith), length-drop (at + length bytes) now)

overlaid_other : (now bytes : List ℕ) (at k : ℕ) → at + length bytes ≤ length now → (k < at) ⊎ (at + length bytes ≤ k) → get_or (overlaid now at bytes) k 0 ≡ get_or now k 0
overlaid_other now bytes at k room (inl h) =
    let long : length (take at now) ≡ at = length-take-le at now (omega arith) in
    get_or_append_left (take at now ++ bytes) (drop (at + length bytes) now) 0 k (omega (arith, length-append (take at now) bytes))
    ∙ get_or_append_left (take at now) bytes 0 k (omega arith) ∙ get_or-take at now k 0 h
overlaid_other now bytes at k room (inr h) =
    let long : length (take at now ++ bytes) ≡ at + length bytes = omega (arith, length-append (take at now) bytes, length-take-le at now (omega arith)) in
    let split : at + length bytes + (k - (at + length bytes)) ≡ k = omega arith in
    get_or-append_right (take at now ++ bytes) (drop (at + length bytes) now) (at + length bytes) k 0 long h
    ∙ get_or-drop (at + length bytes) now (k - (at + length bytes)) 0 ∙ ap (λ (i : ℕ). get_or now i 0) split

-- an area with these two slots of a page
pub laid : List ℕ → ℕ → (Slot → List ℕ) → List ℕ
laid now page slots = overlaid (overlaid now (slot_at page First) (slots First)) (slot_at page Second) (slots Second)

module _ (now : List ℕ) (page : ℕ) (slots : Slot → List ℕ) (room : (2 * page + 2) * 272 ≤ length now) (long : (slot : Slot) → length (slots slot) ≡ 272) where
  first_room : slot_at page First + length (slots First) ≤ length now
  first_room = omega (arith, long First)

  first_long : length (overlaid now (slot_at page First) (slots First)) ≡ length now
  first_long = overlaid_length now (slots First) (slot_at page First) first_room

  second_room : slot_at page Second + length (slots Second) ≤ length (overlaid now (slot_at page First) (slots First))
  second_room = omega (arith, long Second, first_long)

  pub laid_length : length (laid now page slots) ≡ length now
  unfolding laid
  laid_length = overlaid_length (overlaid now (slot_at page First) (slots First)) (slots Second) (slot_at page Second) second_room ∙ first_long

  pub laid_slot : (slot : Slot) (k : ℕ) → k < 272 → get_or (laid now page slots) (slot_at page slot + k) 0 ≡ get_or (slots slot) k 0
  unfolding laid
  laid_slot First k h =
      overlaid_other (overlaid now (slot_at page First) (slots First)) (slots Second) (slot_at page Second) (slot_at page First + k) second_room (inl (omega arith))
      ∙ overlaid_get now (slots First) (slot_at page First) k first_room (omega (arith, long First))
  laid_slot Second k h = overlaid_get (overlaid now (slot_at page First) (slots First)) (slots Second) (slot_at page Second) k second_room (omega (arith, long Second))

  pub laid_outside : (k : ℕ) → IsOutside page k → get_or (laid now page slots) k 0 ≡ get_or now k 0
  unfolding laid
  laid_outside k o =
      let before_second : (k < slot_at page Second) ⊎ (slot_at page Second + length (slots Second) ≤ k) = elim o [ inl h ↦ inl (omega arith) | inr h ↦ inr (omega (arith, long Second)) ] in
      let before_first : (k < slot_at page First) ⊎ (slot_at page First + length (slots First) ≤ k) = elim o [ inl h ↦ inl h | inr h ↦ inr (omega (arith, long First)) ] in
      overlaid_other (overlaid now (slot_at page First) (slots First)) (slots Second) (slot_at page Second) k second_room before_second
      ∙ overlaid_other now (slots First) (slot_at page First) k first_room before_first

  pub laid_bytes : (slot : Slot) → slot_bytes (laid now page slots) page slot ≡ slots slot
  laid_bytes slot =
      let whole : length (slot_bytes (laid now page slots) page slot) ≡ 272 = slot_length (laid now page slots) page slot (omega (arith, laid_length)) in
      ext_get_or 0 (slot_bytes (laid now page slots) page slot) (slots slot) (whole ∙ sym (long slot)) (λ i h.
      let below : i < 272 = omega (arith, whole) in
      slot_get (laid now page slots) page slot i below ∙ laid_slot slot i below)

-- a position of a page is in one of its slots
place_of : (page k : ℕ) → IsOutside page k ⊎ ((slot : Slot) × (i : ℕ) × (i < 272) × (k ≡ slot_at page slot + i))
place_of page k = elim (cases_lt k (slot_at page First)) [
  | inl before ↦ inl (inl before)
  | inr from ↦ elim (cases_lt k (slot_at page Second)) [
    | inl first ↦ inr (First, k - slot_at page First, omega arith, omega arith)
    | inr second ↦ elim (cases_lt k (slot_at page Second + 272)) [
      | inl within ↦ inr (Second, k - slot_at page Second, omega arith, omega arith)
      | inr past ↦ inl (inr past)
    ]
  ]
]

-- and an image of it, where they are images of its slots
pub laid_image : (now : List ℕ) (dirty : ℕ → Bool) (page : ℕ) (slots : Slot → List ℕ) → (2 * page + 2) * 272 ≤ length now → ((k : ℕ) → get_or now k 0 < 256)
    → ((slot : Slot) → IsSlotImage now dirty page slot (slots slot)) → IsImage now dirty (laid now page slots)
laid_image now dirty page slots room fits are =
    let long : (slot : Slot) → length (slots slot) ≡ 272 = λ slot. (are slot).same_length ∙ slot_length now page slot room in
    record {
      same_length = laid_length now page slots room long;
      bytes = λ k. elim (place_of page k) [
        | inl outside ↦ subst (λ (n : ℕ). n < 256) (sym (laid_outside now page slots room long k outside)) (fits k)
        | inr p ↦ subst (λ (i : ℕ). get_or (laid now page slots) i 0 < 256) (sym p.3) (subst (λ (n : ℕ). n < 256) (sym (laid_slot now page slots room long p.0 p.1 p.2)) ((are p.0).bytes p.1))
      ];
      stable = λ k clean. elim (place_of page k) [
        | inl outside ↦ laid_outside now page slots room long k outside
        | inr p ↦ subst (λ (i : ℕ). get_or (laid now page slots) i 0 ≡ get_or now i 0) (sym p.3)
            (laid_slot now page slots room long p.0 p.1 p.2 ∙ (are p.0).stable p.1 (ap dirty (sym p.3) ∙ clean) ∙ slot_get now page p.0 p.1 p.2)
      ];
    }

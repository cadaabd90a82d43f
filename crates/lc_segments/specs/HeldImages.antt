-- The images of held segments, as those that a transaction runs on.
use Rattle.std.specs.Prelude.{◌≡◌, ◌≢◌, ℕ, zero, suc, ◌==◌, Bool, true, false, if◌then◌else◌, List, [], ◌∷◌, map, slice_set, slice_index_or, slice_get, Option, Some, None, IsSome}
use Rattle.std.specs.Vec.{with_item}
use Rattle.std.proofs.Common.{refl, sym, ap, subst, cond, eqb-true, ◌∙◌}
use Rattle.std.proofs.lemmas.Option.{get_or_from_slice_get}
use Rattle.lc_tx.specs.declared.image.Image.{Image as Picture}
use Rattle.lc_tx.specs.declared.images.Images.{Ghosts}
use Rattle.lc_segments.specs.declared.lent.LentSlot.{LentSlot}
use Rattle.lc_segments.specs.declared.lent.HeldImages.{HeldImages}

-- the place of the first slot of this segment; the one after the last where there is none
abbrev pub place_of : List LentSlot → ℕ → ℕ
place_of [] segment = 0
place_of (slot ∷ slots) segment = if slot.segment == segment then 0 else suc (place_of slots segment)

abbrev pub number_at : Option LentSlot → Option ℕ
number_at None = None
number_at (Some slot) = slot.number

abbrev pub image_at : Picture → Option LentSlot → Picture
image_at spare None = spare
image_at spare (Some slot) = slot.image

abbrev pub slot_of : List LentSlot → ℕ → Option LentSlot
slot_of slots segment = slice_get slots (place_of slots segment)

abbrev pub with_picture : Option LentSlot → Picture → (LentSlot → HeldImages) → HeldImages → HeldImages
with_picture None image place lent = lent
with_picture (Some slot) image place lent = place (record slot { image = image })

abbrev pub with_image : HeldImages → ℕ → Picture → HeldImages
with_image lent segment image = with_picture (slot_of lent.slots.items segment) image (λ slot. record lent { slots = with_item lent.slots (place_of lent.slots.items segment) slot }) lent

-- all of a slot but an image that transactions may change
abbrev pub hidden : Option ℕ → Picture → Option Picture
hidden None image = Some image
hidden (Some number) image = None

abbrev pub beside : LentSlot → ℕ × Option ℕ × Option Picture
beside slot = (slot.segment, slot.number, hidden slot.number slot.image)

abbrev pub the_images : Ghosts HeldImages
the_images = record {
  number_of = λ lent segment. number_at (slot_of lent.slots.items segment);
  image_of = λ lent segment. image_at lent.spare (slot_of lent.slots.items segment);
  with_image = with_image;
  IsSameBeside = λ one two. (two.spare ≡ one.spare) × (map beside two.slots.items ≡ map beside one.slots.items);
}

-- An element of a list, after a write to one

same_some : {A : Type 0} (x y : A) → Some x ≡ Some y → x ≡ y
same_some x y e = cc

get_set_same : {A : Type 0} (xs : List A) (k : ℕ) (x y : A) → slice_get xs k ≡ Some x → slice_get (slice_set xs k y) k ≡ Some y
get_set_same [] k x y is = absurd cc
get_set_same (z ∷ xs) zero x y is = refl
get_set_same (z ∷ xs) (suc k) x y is = get_set_same xs k x y is

get_set_other : {A : Type 0} (xs : List A) (k j : ℕ) (y : A) → (j ≡ k → ⊥) → slice_get (slice_set xs k y) j ≡ slice_get xs j
get_set_other [] k j y differ = refl
get_set_other (z ∷ xs) zero zero y differ = absurd (differ refl)
get_set_other (z ∷ xs) zero (suc j) y differ = refl
get_set_other (z ∷ xs) (suc k) zero y differ = refl
get_set_other (z ∷ xs) (suc k) (suc j) y differ = get_set_other xs k j y (λ e. differ (ap suc e))

same_map_set : {A B : Type 0} (f : A → B) (xs : List A) (k : ℕ) (x y : A) → slice_get xs k ≡ Some x → f y ≡ f x → map f (slice_set xs k y) ≡ map f xs
same_map_set f [] k x y is same = refl
same_map_set f (z ∷ xs) zero x y is same = ap (λ b. b ∷ map f xs) (same ∙ ap f (sym (same_some z x is)))
same_map_set f (z ∷ xs) (suc k) x y is same = ap (λ bs. f z ∷ bs) (same_map_set f xs k x y is same)

-- The laws

here_at : (slots : List LentSlot) (segment : ℕ) → IsSome (number_at (slot_of slots segment)) → (slot : LentSlot) × (slot_of slots segment ≡ Some slot) × IsSome slot.number
here_at slots segment is = elim (slot_of slots segment) as (λ (o : Option LentSlot). slot_of slots segment ≡ o → IsSome (number_at o) → (slot : LentSlot) × (slot_of slots segment ≡ Some slot) × IsSome slot.number) [
  | None ↦ λ e h. absurd cc
  | Some slot ↦ λ e h. (slot, e, h)
] refl is

hidden_same : (number : Option ℕ) (image other : Picture) → IsSome number → hidden number image ≡ hidden number other
hidden_same None image other some = absurd cc
hidden_same (Some n) image other some = refl

-- what is found is of the segment
pub found_is : (slots : List LentSlot) (segment : ℕ) (slot : LentSlot) → slot_of slots segment ≡ Some slot → slot.segment ≡ segment
found_is [] segment slot is = absurd cc
found_is (z ∷ slots) segment slot is = elim (z.segment == segment) as (λ (c : Bool). (z.segment == segment) ≡ c → slice_get (z ∷ slots) (cond c 0 (suc (place_of slots segment))) ≡ Some slot → slot.segment ≡ segment) [
  | true ↦ λ e h. ap (λ (x : LentSlot). x.segment) (sym (same_some z slot h)) ∙ eqb-true z.segment segment e
  | false ↦ λ e h. found_is slots segment slot h
] refl is

-- the places stay where a slot's segment stays
pub same_places : (slots : List LentSlot) (k segment : ℕ) (slot new : LentSlot) → slice_get slots k ≡ Some slot → new.segment ≡ slot.segment → place_of (slice_set slots k new) segment ≡ place_of slots segment
same_places [] k segment slot new is same = refl
same_places (z ∷ slots) zero segment slot new is same = ap (λ (n : ℕ). cond (n == segment) 0 (suc (place_of slots segment))) (same ∙ ap (λ (x : LentSlot). x.segment) (sym (same_some z slot is)))
same_places (z ∷ slots) (suc k) segment slot new is same = ap (λ (n : ℕ). cond (z.segment == segment) 0 (suc n)) (same_places slots k segment slot new is same)

-- what a change of a slot's image makes
pub set_is : (lent : HeldImages) (segment : ℕ) (slot : LentSlot) (image : Picture) → slot_of lent.slots.items segment ≡ Some slot
    → with_image lent segment image ≡ record lent { slots = with_item lent.slots (place_of lent.slots.items segment) (record slot { image = image }) }
set_is lent segment slot image is = ap (λ (o : Option LentSlot). with_picture o image (λ s. record lent { slots = with_item lent.slots (place_of lent.slots.items segment) s }) lent) is

number_set : (slots : List LentSlot) (k j : ℕ) (slot new : LentSlot) → slice_get slots k ≡ Some slot → new.number ≡ slot.number
    → number_at (slice_get (slice_set slots k new) j) ≡ number_at (slice_get slots j)
number_set [] k j slot new is same = refl
number_set (z ∷ slots) zero zero slot new is same = same ∙ ap (λ (x : LentSlot). x.number) (sym (same_some z slot is))
number_set (z ∷ slots) zero (suc j) slot new is same = refl
number_set (z ∷ slots) (suc k) zero slot new is same = refl
number_set (z ∷ slots) (suc k) (suc j) slot new is same = number_set slots k j slot new is same

pub same_numbers : (s : HeldImages) (segment other : ℕ) (image : Picture) → IsSome (the_images.number_of s segment) → the_images.number_of (with_image s segment image) other ≡ the_images.number_of s other
same_numbers s segment other image here =
    let at = here_at s.slots.items segment here in let k : ℕ = place_of s.slots.items segment in let new : LentSlot = record at.0 { image = image } in
    ap (λ (h : HeldImages). number_at (slot_of h.slots.items other)) (set_is s segment at.0 image at.1)
    ∙ (ap (λ (n : ℕ). number_at (slice_get (slice_set s.slots.items k new) n)) (same_places s.slots.items k other at.0 new at.1 refl)
    ∙ number_set s.slots.items k (place_of s.slots.items other) at.0 new at.1 refl)

pub own_image : (s : HeldImages) (segment : ℕ) (image : Picture) → IsSome (the_images.number_of s segment) → the_images.image_of (with_image s segment image) segment ≡ image
own_image s segment image here =
    let at = here_at s.slots.items segment here in let k : ℕ = place_of s.slots.items segment in let new : LentSlot = record at.0 { image = image } in
    ap (λ (h : HeldImages). image_at h.spare (slot_of h.slots.items segment)) (set_is s segment at.0 image at.1)
    ∙ (ap (λ (n : ℕ). image_at s.spare (slice_get (slice_set s.slots.items k new) n)) (same_places s.slots.items k segment at.0 new at.1 refl)
    ∙ ap (image_at s.spare) (get_set_same s.slots.items k at.0 new at.1))

pub other_image : (s : HeldImages) (segment other : ℕ) (image : Picture) → IsSome (the_images.number_of s segment) → IsSome (the_images.number_of s other) → other ≢ segment
    → the_images.image_of (with_image s segment image) other ≡ the_images.image_of s other
other_image s segment other image here there differ =
    let at = here_at s.slots.items segment here in let of = here_at s.slots.items other there in let k : ℕ = place_of s.slots.items segment in let new : LentSlot = record at.0 { image = image } in
    let apart : place_of s.slots.items other ≡ k → ⊥ = λ e. differ (sym (found_is s.slots.items other of.0 of.1) ∙ (ap (λ (x : LentSlot). x.segment) (same_some of.0 at.0 (sym of.1 ∙ (ap (λ (n : ℕ). slice_get s.slots.items n) e ∙ at.1))) ∙ found_is s.slots.items segment at.0 at.1)) in
    ap (λ (h : HeldImages). image_at h.spare (slot_of h.slots.items other)) (set_is s segment at.0 image at.1)
    ∙ (ap (λ (n : ℕ). image_at s.spare (slice_get (slice_set s.slots.items k new) n)) (same_places s.slots.items k other at.0 new at.1 refl)
    ∙ ap (image_at s.spare) (get_set_other s.slots.items k (place_of s.slots.items other) new apart))

pub beside_itself : (s : HeldImages) → the_images.IsSameBeside s s
beside_itself s = (refl, refl)

pub beside_image : (s : HeldImages) (segment : ℕ) (image : Picture) → IsSome (the_images.number_of s segment) → the_images.IsSameBeside s (with_image s segment image)
beside_image s segment image here =
    let at = here_at s.slots.items segment here in
    let set = set_is s segment at.0 image at.1 in (
      ap (λ (h : HeldImages). h.spare) set,
      ap (λ (h : HeldImages). map beside h.slots.items) set
          ∙ same_map_set beside s.slots.items (place_of s.slots.items segment) at.0 (record at.0 { image = image }) at.1
          (ap (λ o. (at.0.segment, at.0.number, o)) (hidden_same at.0.number image at.0.image at.2)),
    )

pub beside_chained : (s t u : HeldImages) → the_images.IsSameBeside s t → the_images.IsSameBeside t u → the_images.IsSameBeside s u
beside_chained s t u one two = (two.0 ∙ one.0, two.1 ∙ one.1)

-- what is lent of the image in this place, and what the write of it leaves
abbrev pub LendsImage : HeldImages → ℕ → LentSlot → ℕ → Type 0
LendsImage s segment slot place =
    ((w : Picture) → record { slots = with_item s.slots place (record { segment = slot.segment; number = slot.number; image = w }); spare = s.spare } ≡ with_image s segment w)
    × (slot.image ≡ the_images.image_of s segment)

pub lent_in : (s : HeldImages) (segment : ℕ) (slot : LentSlot) (place : ℕ) → place ≡ place_of s.slots.items segment → IsSome (the_images.number_of s segment) → slot ≡ slice_index_or s.slots.items place slot → LendsImage s segment slot place
lent_in s segment slot place of here is =
    let at = here_at s.slots.items segment here in let k : ℕ = place_of s.slots.items segment in
    let same : slot ≡ at.0 = is ∙ (ap (λ (n : ℕ). slice_index_or s.slots.items n slot) of ∙ get_or_from_slice_get s.slots.items k at.0 slot at.1) in
    let got : slice_get s.slots.items k ≡ Some slot = at.1 ∙ ap (λ x. Some x) (sym same) in
    subst (λ (n : ℕ). LendsImage s segment slot n) (sym of) (
      λ w. sym (set_is s segment slot w got),
      sym (ap (image_at s.spare) got),
    )

-- The segments at a node, as the images that transactions run on.
use Rattle.std.specs.Prelude.{◌≡◌, ◌≢◌, ℕ, zero, suc, ◌-◌, List, [], ◌∷◌, map, slice_set, slice_index_or, slice_get, Option, Some, None, IsSome}
use Rattle.std.specs.Vec.{with_item}
use Rattle.std.proofs.Common.{refl, sym, ap, subst, ◌∙◌, arith}
use Rattle.std.proofs.lemmas.Option.{get_or_from_slice_get, same_Some as same_some}
use Rattle.lc_token.specs.declared.token.Token.{Token}
use Rattle.lc_token.specs.Backlog.{Backlog}
use Rattle.lc_token.specs.Standing.{Standing}
use Rattle.lc_tx.specs.declared.image.Image.{Image as Picture}
use Rattle.lc_tx.specs.declared.images.Images.{Ghosts}
use Rattle.lc_desk.specs.declared.segment_copy.SegmentCopy.{SegmentCopy}
use Rattle.lc_desk.specs.declared.here.Here.{Here}
use Rattle.lc_desk.specs.Places.{get_set_other, get_set_same, same_map_set}

abbrev pub number_in : Option Token → Option ℕ
number_in None = None
number_in (Some token) = Some token.seq

abbrev pub number_at : Option SegmentCopy → Option ℕ
number_at None = None
number_at (Some slot) = number_in slot.token.token

abbrev pub image_at : Picture → Option SegmentCopy → Picture
image_at spare None = spare
image_at spare (Some slot) = slot.image

-- there is no segment 0
abbrev pub number_of : List SegmentCopy → ℕ → Option ℕ
number_of slots zero = None
number_of slots (suc place) = number_at (slice_get slots place)

abbrev pub image_of : Picture → List SegmentCopy → ℕ → Picture
image_of spare slots zero = spare
image_of spare slots (suc place) = image_at spare (slice_get slots place)

abbrev pub with_picture : Option SegmentCopy → Picture → (SegmentCopy → Here) → Here → Here
with_picture None image place here = here
with_picture (Some slot) image place here = place (record slot { image = image })

abbrev pub with_image : Here → ℕ → Picture → Here
with_image here zero image = here
with_image here (suc place) image = with_picture (slice_get here.slots.items place) image (λ slot. record here { slots = with_item here.slots place slot }) here

-- all of a slot but an image that transactions may change
abbrev pub hidden : Option ℕ → Picture → Option Picture
hidden None image = Some image
hidden (Some number) image = None

abbrev pub beside : SegmentCopy → Standing × Backlog × Option Picture
beside slot = (slot.token, slot.parts, hidden (number_in slot.token.token) slot.image)

abbrev pub the_images : Ghosts Here
the_images = record {
  number_of = λ here segment. number_of here.slots.items segment;
  image_of = λ here segment. image_of here.spare here.slots.items segment;
  with_image = with_image;
  IsSameBeside = λ here there. (there.spare ≡ here.spare) × (map beside there.slots.items ≡ map beside here.slots.items);
}

-- The laws

here_at : (slots : List SegmentCopy) (place : ℕ) → IsSome (number_of slots (suc place)) → (slot : SegmentCopy) × (slice_get slots place ≡ Some slot) × IsSome (number_in slot.token.token)
here_at slots place is = elim (slice_get slots place) as (λ (o : Option SegmentCopy). slice_get slots place ≡ o → IsSome (number_at o) → (slot : SegmentCopy) × (slice_get slots place ≡ Some slot) × IsSome (number_in slot.token.token)) [
  | None ↦ λ e h. absurd cc
  | Some slot ↦ λ e h. (slot, e, h)
] refl is

-- what a change of a slot's image makes
set_is : (here : Here) (place : ℕ) (slot : SegmentCopy) (image : Picture) → slice_get here.slots.items place ≡ Some slot
    → with_image here (suc place) image ≡ record here { slots = with_item here.slots place (record slot { image = image }) }
set_is here place slot image is = ap (λ (o : Option SegmentCopy). with_picture o image (λ s. record here { slots = with_item here.slots place s }) here) is

hidden_same : (number : Option ℕ) (image other : Picture) → IsSome number → hidden number image ≡ hidden number other
hidden_same None image other some = absurd cc
hidden_same (Some n) image other some = refl

number_set : (slots : List SegmentCopy) (k j : ℕ) (slot new : SegmentCopy) → slice_get slots k ≡ Some slot → new.token ≡ slot.token
    → number_at (slice_get (slice_set slots k new) j) ≡ number_at (slice_get slots j)
number_set [] k j slot new is same = refl
number_set (z ∷ slots) zero zero slot new is same = ap (λ (p : Standing). number_in p.token) (same ∙ ap (λ (x : SegmentCopy). x.token) (sym (same_some z slot is)))
number_set (z ∷ slots) zero (suc j) slot new is same = refl
number_set (z ∷ slots) (suc k) zero slot new is same = refl
number_set (z ∷ slots) (suc k) (suc j) slot new is same = number_set slots k j slot new is same

pub same_numbers : (s : Here) (segment other : ℕ) (image : Picture) → IsSome (the_images.number_of s segment) → the_images.number_of (with_image s segment image) other ≡ the_images.number_of s other
same_numbers s zero other image here = refl
same_numbers s (suc k) zero image here = refl
same_numbers s (suc k) (suc j) image here =
    let at = here_at s.slots.items k here in
    ap (λ (h : Here). number_at (slice_get h.slots.items j)) (set_is s k at.0 image at.1)
    ∙ number_set s.slots.items k j at.0 (record at.0 { image = image }) at.1 refl

pub own_image : (s : Here) (segment : ℕ) (image : Picture) → IsSome (the_images.number_of s segment) → the_images.image_of (with_image s segment image) segment ≡ image
own_image s zero image here = absurd cc
own_image s (suc k) image here =
    let at = here_at s.slots.items k here in
    ap (λ (h : Here). image_of h.spare h.slots.items (suc k)) (set_is s k at.0 image at.1)
    ∙ ap (image_at s.spare) (get_set_same s.slots.items k at.0 (record at.0 { image = image }) at.1)

pub other_image : (s : Here) (segment other : ℕ) (image : Picture) → IsSome (the_images.number_of s segment) → IsSome (the_images.number_of s other) → other ≢ segment
    → the_images.image_of (with_image s segment image) other ≡ the_images.image_of s other
other_image s zero other image here there differ = refl
other_image s (suc k) zero image here there differ = absurd cc
other_image s (suc k) (suc j) image here there differ =
    let at = here_at s.slots.items k here in
    ap (λ (h : Here). image_of h.spare h.slots.items (suc j)) (set_is s k at.0 image at.1)
    ∙ ap (image_at s.spare) (get_set_other s.slots.items k j (record at.0 { image = image }) (λ e. differ (ap suc e)))

pub beside_itself : (s : Here) → the_images.IsSameBeside s s
beside_itself s = (refl, refl)

pub beside_image : (s : Here) (segment : ℕ) (image : Picture) → IsSome (the_images.number_of s segment) → the_images.IsSameBeside s (with_image s segment image)
beside_image s zero image here = (refl, refl)
beside_image s (suc k) image here =
    let at = here_at s.slots.items k here in
    let set = set_is s k at.0 image at.1 in (
      ap (λ (h : Here). h.spare) set,
      ap (λ (h : Here). map beside h.slots.items) set
          ∙ same_map_set beside s.slots.items k at.0 (record at.0 { image = image }) at.1
          (ap (λ o. (at.0.token, at.0.parts, o)) (hidden_same (number_in at.0.token.token) image at.0.image at.2)),
    )

pub beside_chained : (s t u : Here) → the_images.IsSameBeside s t → the_images.IsSameBeside t u → the_images.IsSameBeside s u
beside_chained s t u one two = (two.0 ∙ one.0, two.1 ∙ one.1)

-- what is lent of the image in this place, and what the write of it leaves
abbrev pub Lent : Here → ℕ → SegmentCopy → ℕ → Type 0
Lent s segment slot place =
    ((w : Picture) → record { slots = with_item s.slots place (record { image = w; token = slot.token; parts = slot.parts }); spare = s.spare } ≡ with_image s segment w)
    × (slot.image ≡ the_images.image_of s segment)

lent_in : (s : Here) (k : ℕ) (slot : SegmentCopy) → IsSome (the_images.number_of s (suc k)) → slot ≡ slice_index_or s.slots.items k slot → Lent s (suc k) slot k
lent_in s k slot here is =
    let at = here_at s.slots.items k here in
    let same : slot ≡ at.0 = is ∙ get_or_from_slice_get s.slots.items k at.0 slot at.1 in
    let got : slice_get s.slots.items k ≡ Some slot = at.1 ∙ ap (λ x. Some x) (sym same) in (
      λ w. sym (set_is s k slot w got),
      sym (ap (image_at s.spare) got),
    )

pub lent : (s : Here) (segment : ℕ) (slot : SegmentCopy) → IsSome (the_images.number_of s segment) → slot ≡ slice_index_or s.slots.items (segment - 1) slot → Lent s segment slot (segment - 1)
lent s zero slot here is = absurd cc
lent s (suc k) slot here is =
    let e : suc k - 1 ≡ k = omega arith in
    subst (λ (n : ℕ). slot ≡ slice_index_or s.slots.items n slot → Lent s (suc k) slot n) (sym e) (lent_in s k slot here) is

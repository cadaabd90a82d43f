-- Of a desk: the slots of a node stay as many, and their images as long.
use Rattle.std.proofs.Common.{◌≡◌, ℕ, zero, suc, ◌≤◌, true, false, List, [], ◌∷◌, ◌++◌, map, length, Option, Some, None, refl, sym, ap, subst, ◌∙◌, inl, inr, arith, eqb, eqb-true, true≢false}
use Rattle.std.specs.Prelude.{◌⊎◌, slice_get, slice_set, IsSome, Result, Ok, Err, OnOk, OnErr, vec_len}
use Rattle.std.specs.Vec.{with_item}
use Rattle.std.proofs.lemmas.Bool.{cases_Bool, cases_eq, or_cases}
use Rattle.std.proofs.lemmas.List.{length-map}
use Rattle.std.proofs.lemmas.Option.{same_Some as same_some}
use Rattle.lc_record.specs.Transaction.{is_member}
use Rattle.lc_record.proofs.SegmentLemmas.{length-put}
use Rattle.lc_token.specs.Backlog.{Backlog}
use Rattle.lc_token.specs.Standing.{Standing}
use Rattle.lc_tx.specs.Images.{IsSameBut, IsSame, IsWritten, AreLocked, AreFreed, bytes_of}
use Rattle.lc_tx.specs.declared.image.Image.{Image as Picture}
use Rattle.lc_tx.proofs.MemberLemmas.{member_both}
use Rattle.lc_desk.specs.Here.{the_images, number_in, number_at, image_at, beside, hidden}
use Rattle.lc_desk.specs.Places.{get_set_same, get_set_other}
use Rattle.lc_desk.specs.Seats.{AreShort}
use Rattle.lc_desk.specs.Slots.{AreInPlace, Besides, besides_of}
use Rattle.lc_desk.specs.declared.here.Here.{Here}
use Rattle.lc_desk.specs.declared.segment_copy.SegmentCopy.{SegmentCopy}

pub same_slots : (old new : Here) → the_images.IsSameBeside old new → length new.slots.items ≡ length old.slots.items
same_slots old new same = sym (length-map new.slots.items beside) ∙ ap length same.1 ∙ length-map old.slots.items beside

pub few_slots : (old new : Here) → the_images.IsSameBeside old new → vec_len old.slots ≤ 16 → vec_len new.slots ≤ 16
few_slots old new same few = omega (arith, same_slots old new same, few, old.slots.ok.0, new.slots.ok.0)

-- a slot whose token is elsewhere has the image that it had
away_one : (new old : SegmentCopy) → beside new ≡ beside old → number_in old.token.token ≡ None → new.image ≡ old.image
away_one new old same none =
    let tokens : number_in new.token.token ≡ number_in old.token.token = ap (λ (b : Standing × Backlog × Option Picture). number_in b.0.token) same in
    let images : hidden (number_in new.token.token) new.image ≡ hidden (number_in old.token.token) old.image = ap (λ (b : Standing × Backlog × Option Picture). b.2) same in
    same_some new.image old.image (ap (λ o. hidden o new.image) (sym (tokens ∙ none)) ∙ images ∙ ap (λ o. hidden o old.image) none)

away_image : (spare : Picture) (new old : List SegmentCopy) (k : ℕ) → map beside new ≡ map beside old → number_at (slice_get old k) ≡ None → image_at spare (slice_get new k) ≡ image_at spare (slice_get old k)
away_image spare [] [] k same none = refl
away_image spare [] (y ∷ ys) k same none = absurd cc
away_image spare (x ∷ xs) [] k same none = absurd cc
away_image spare (x ∷ xs) (y ∷ ys) zero same none = (let one : beside x ≡ beside y = cc in away_one x y one none)
away_image spare (x ∷ xs) (y ∷ ys) (suc k) same none = (let rest : map beside xs ≡ map beside ys = cc in away_image spare xs ys k rest none)

away_is : (old new : Here) (segment : ℕ) → the_images.IsSameBeside old new → the_images.number_of old segment ≡ None → the_images.image_of new segment ≡ the_images.image_of old segment
away_is old new zero same none = same.0
away_is old new (suc k) same none = ap (λ p. image_at p (slice_get new.slots.items k)) same.0 ∙ away_image old.spare new.slots.items old.slots.items k same.1 none

-- and what stands in the slots stays in its place
pub in_place_same : (old new : Here) → the_images.IsSameBeside old new → AreInPlace (besides_of old) → AreInPlace (besides_of new)
in_place_same old new same = subst AreInPlace (sym same.1)

same_slot : (slots : List SegmentCopy) (k : ℕ) (slot new : SegmentCopy) → slice_get slots k ≡ Some slot → new.token.segment ≡ slot.token.segment → new.parts ≡ slot.parts
    → (j : ℕ) (b : Besides) → slice_get (map beside (slice_set slots k new)) j ≡ Some b
    → (c : Besides) × (slice_get (map beside slots) j ≡ Some c) × (b.0.segment ≡ c.0.segment) × (b.1 ≡ c.1)
same_slot [] k slot new is segment parts j b there = absurd cc
same_slot (z ∷ slots) zero slot new is segment parts zero b there =
    (let own : z ≡ slot = same_some z slot is in
    let got : beside new ≡ b = same_some (beside new) b there in (beside z, refl, rw (sym got, own) segment, rw (sym got, own) parts))
same_slot (z ∷ slots) zero slot new is segment parts (suc j) b there = (b, there, refl, refl)
same_slot (z ∷ slots) (suc k) slot new is segment parts zero b there = (b, there, refl, refl)
same_slot (z ∷ slots) (suc k) slot new is segment parts (suc j) b there = same_slot slots k slot new is segment parts j b there

pub in_place_moved : (here : Here) (k : ℕ) (slot : SegmentCopy) (standing : Standing) → slice_get here.slots.items k ≡ Some slot → standing.segment ≡ slot.token.segment
    → AreInPlace (besides_of here) → AreInPlace (besides_of (record here { slots = with_item here.slots k (record slot { token = standing }) }))
in_place_moved here k slot standing at segment placed j b there =
    let old = same_slot here.slots.items k slot (record slot { token = standing }) at segment refl j b there in
    let its = placed j old.0 old.1 in (old.2 ∙ its.0, rw old.3 its.1, rw old.3 its.2)

pub in_place_written : {V E : Type 0} (result : Result V E) (old new : Here) (segment offset : ℕ) (bytes : List ℕ) → OnOk result (IsWritten the_images old segment offset bytes new) → OnErr result (IsSame the_images old new) → AreInPlace (besides_of old) → AreInPlace (besides_of new)
in_place_written (Ok v) old new segment offset bytes written same placed = in_place_same old new written.same.beside placed
in_place_written (Err e) old new segment offset bytes written same placed = in_place_same old new same.beside placed

pub short_kept : (old new : Here) (segments : List ℕ) → IsSameBut the_images segments old new
    → ((segment : ℕ) → is_member segment segments ≡ true → length (bytes_of the_images new segment) ≡ length (bytes_of the_images old segment)) → AreShort old → AreShort new
short_kept old new segments same lengths short segment = by_number (the_images.number_of old segment) refl
  where
    by_number : (o : Option ℕ) → the_images.number_of old segment ≡ o → length (bytes_of the_images new segment) ≤ 262144
    by_number None none =
        let was : length (bytes_of the_images old segment) ≤ 262144 = short segment in
        let is : length (bytes_of the_images new segment) ≡ length (bytes_of the_images old segment) = ap (λ (p : Picture). length p.bytes.items) (away_is old new segment same.beside none) in
        omega (arith, was, is)
    by_number (Some number) some = elim (cases_Bool (is_member segment segments)) [
      | inl member ↦ (let was : length (bytes_of the_images old segment) ≤ 262144 = short segment in omega (arith, lengths segment member, was))
      | inr other ↦
          let was : length (bytes_of the_images old segment) ≤ 262144 = short segment in
          let is : length (bytes_of the_images new segment) ≡ length (bytes_of the_images old segment) = ap (λ (p : Picture). length p.bytes.items) (same.others segment (subst (λ (o : Option ℕ). IsSome o) (sym some) refl) other) in
          omega (arith, was, is)
    ]

pub short_same : (old new : Here) → IsSame the_images old new → AreShort old → AreShort new
short_same old new same short = short_kept old new [] same (λ segment member. absurd cc) short

pub short_locked : (thread : ℕ) (segments reading : List ℕ) (old new : Here) → AreLocked the_images thread segments reading old new → AreShort old → AreShort new
short_locked thread segments reading old new locked short = short_kept old new (segments ++ reading) locked.same (λ segment member. ap length (locked.same_bytes segment member)) short

-- where what was written keeps its length
pub short_freed : (thread : ℕ) (segments reading : List ℕ) (old new : Here) → AreFreed the_images thread segments reading old new
    → ((segment : ℕ) → is_member segment segments ≡ true → length (bytes_of the_images new segment) ≡ length (bytes_of the_images old segment)) → AreShort old → AreShort new
short_freed thread segments reading old new freed lengths short = short_kept old new (segments ++ reading) freed.same
    (λ segment member. elim (or_cases (is_member segment segments) (is_member segment reading) (sym (member_both segment segments reading) ∙ member)) [
      | inl writes ↦ lengths segment writes
      | inr reads ↦ ap length (freed.same_read segment reads)
    ]) short

pub short_written : {V E : Type 0} (result : Result V E) (old new : Here) (segment offset : ℕ) (bytes : List ℕ) → OnOk result (IsWritten the_images old segment offset bytes new) → OnErr result (IsSame the_images old new) → AreShort old → AreShort new
short_written (Ok v) old new segment offset bytes wrote same short = short_kept old new (segment ∷ []) wrote.same
    (λ n member. (let is : segment ≡ n = only n member in
    ap (λ k. length (bytes_of the_images new k)) (sym is) ∙ ap length wrote.bytes_are ∙ length-put offset bytes (bytes_of the_images old segment) ∙ ap (λ k. length (bytes_of the_images old k)) is)) short
  where
    only : (n : ℕ) → is_member n (segment ∷ []) ≡ true → segment ≡ n
    only n member = elim (or_cases (eqb segment n) false member) [ inl is ↦ eqb-true segment n is | inr no_more ↦ absurd (true≢false (sym no_more)) ]
short_written (Err e) old new segment offset bytes wrote same short = short_same old new same short

-- whatever stands in the place of a slot's token
pub short_moved : (here : Here) (k : ℕ) (slot : SegmentCopy) (standing : Standing) → slice_get here.slots.items k ≡ Some slot → AreShort here → AreShort (record here { slots = with_item here.slots k (record slot { token = standing }) })
short_moved here k slot standing at short zero = short zero
short_moved here k slot standing at short (suc j) =
    let was : length (bytes_of the_images here (suc j)) ≤ 262144 = short (suc j) in
    omega (arith, was, ap (λ (p : Picture). length p.bytes.items) (same (cases_eq j k)))
  where
    same : (j ≡ k) ⊎ (j ≡ k → ⊥) → image_at here.spare (slice_get (slice_set here.slots.items k (record slot { token = standing })) j) ≡ image_at here.spare (slice_get here.slots.items j)
    same (inl is) = ap (λ n. image_at here.spare (slice_get (slice_set here.slots.items k (record slot { token = standing })) n)) is
        ∙ ap (image_at here.spare) (get_set_same here.slots.items k slot (record slot { token = standing }) at)
        ∙ ap (image_at here.spare) (sym at) ∙ ap (λ n. image_at here.spare (slice_get here.slots.items n)) (sym is)
    same (inr differ) = ap (image_at here.spare) (get_set_other here.slots.items k j (record slot { token = standing }) differ)

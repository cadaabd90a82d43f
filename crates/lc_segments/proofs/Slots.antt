-- Of a segment: the slots of lent images, by their segments, which ascend.
use Rattle.std.proofs.Common.{◌≡◌, ℕ, zero, suc, ◌+◌, ◌≤◌, cond, eqb, Bool, true, List, [], ◌∷◌, Some, length, map, refl, sym, ap, subst, ◌∙◌, arith, eq-eqb}
use Rattle.std.specs.Prelude.{slice_get, Option}
use Rattle.std.proofs.lemmas.Bool.{or_left, or_right, ne_eqb}
use Rattle.std.proofs.lemmas.List.{length-map}
use Rattle.std.proofs.lemmas.Option.{same_Some as some_same}
use Rattle.lc_record.specs.Transaction.{is_member}
use Rattle.lc_tx.specs.declared.image.Image.{Image as Picture}
use Rattle.lc_segments.specs.Each.{Each}
use Rattle.lc_segments.specs.HeldImages.{the_images, beside, slot_of, place_of, image_at, number_at}
use Rattle.lc_segments.specs.declared.lent.LentSlot.{LentSlot}
use Rattle.lc_segments.specs.declared.lent.HeldImages.{HeldImages}

-- Lists beside each other

module _ {A B : Type 0} (R : A → B → Type 0) where
  pub each_head : (x : A) (xs : List A) (y : B) (ys : List B) → Each R (x ∷ xs) (y ∷ ys) → R x y
  each_head x xs y ys e = e.each 0 x y refl refl

  pub each_tail : (x : A) (xs : List A) (y : B) (ys : List B) → Each R (x ∷ xs) (y ∷ ys) → Each R xs ys
  each_tail x xs y ys e = record { long = (let l = e.long in omega arith); each = λ k p q p_at q_at. e.each (suc k) p q p_at q_at }

  pub each_map : {C : Type 0} (f : A → C) (g : B → C) (xs : List A) (ys : List B) → Each R xs ys → ((x : A) (y : B) → R x y → g y ≡ f x) → map g ys ≡ map f xs
  each_map f g [] [] e same = refl
  each_map f g [] (y ∷ ys) e same = absurd (let l = e.long in omega arith)
  each_map f g (x ∷ xs) [] e same = absurd (let l = e.long in omega arith)
  each_map f g (x ∷ xs) (y ∷ ys) e same = (λ i. same x y (each_head x xs y ys e) i ∷ each_map f g xs ys (each_tail x xs y ys e) same i)

  -- what stands beside an element
  pub each_of : (xs : List A) (ys : List B) (k : ℕ) (y : B) → Each R xs ys → slice_get ys k ≡ Some y → (x : A) × (slice_get xs k ≡ Some x) × R x y
  each_of [] [] k y e is = absurd cc
  each_of [] (z ∷ ys) k y e is = absurd (let l = e.long in omega arith)
  each_of (x ∷ xs) [] k y e is = absurd cc
  each_of (x ∷ xs) (z ∷ ys) zero y e is = (x, refl, e.each 0 x y refl is)
  each_of (x ∷ xs) (z ∷ ys) (suc k) y e is = each_of xs ys k y (each_tail x xs z ys e) is

module _ {A B : Type 0} (f : A → B) where
  pub got_map : (xs : List A) (k : ℕ) (x : A) → slice_get xs k ≡ Some x → slice_get (map f xs) k ≡ Some (f x)
  got_map [] k x is = absurd cc
  got_map (z ∷ xs) zero x is = ap (λ (y : A). Some (f y)) (some_same z x is)
  got_map (z ∷ xs) (suc k) x is = got_map xs k x is

-- Members

pub member_here : (xs : List ℕ) (k x : ℕ) → slice_get xs k ≡ Some x → is_member x xs ≡ true
member_here [] k x is = absurd cc
member_here (z ∷ xs) zero x is = or_left (eqb z x) (is_member x xs) (eq-eqb z x (some_same z x is))
member_here (z ∷ xs) (suc k) x is = or_right (eqb z x) (is_member x xs) (member_here xs k x is)

-- Ascending segments

abbrev pub AscendFrom : ℕ → List ℕ → Type 0
AscendFrom n [] = Unit {0}
AscendFrom n (x ∷ xs) = (n ≤ x) × AscendFrom (x + 1) xs

abbrev pub segments_in : List LentSlot → List ℕ
segments_in slots = map (λ (s : LentSlot). s.segment) slots

found_first : (z : LentSlot) (slots : List LentSlot) → slot_of (z ∷ slots) z.segment ≡ Some z
found_first z slots = ap (λ (b : Bool). slice_get (z ∷ slots) (cond b 0 (suc (place_of slots z.segment)))) (eq-eqb z.segment z.segment refl)

found_later : (z : LentSlot) (slots : List LentSlot) (slot : LentSlot) → (z.segment ≡ slot.segment → ⊥) → slot_of slots slot.segment ≡ Some slot → slot_of (z ∷ slots) slot.segment ≡ Some slot
found_later z slots slot apart there = ap (λ (b : Bool). slice_get (z ∷ slots) (cond b 0 (suc (place_of slots slot.segment)))) (ne_eqb z.segment slot.segment apart) ∙ there

-- the slot of a segment is the one that has it
pub found_at : (n : ℕ) (slots : List LentSlot) (k : ℕ) (slot : LentSlot) → AscendFrom n (segments_in slots) → slice_get slots k ≡ Some slot → (n ≤ slot.segment) × (slot_of slots slot.segment ≡ Some slot)
found_at n [] k slot up is = absurd cc
found_at n (z ∷ slots) zero slot up is = let same : z ≡ slot = some_same z slot is in
    (subst (λ (x : LentSlot). n ≤ x.segment) same up.0, subst (λ (x : LentSlot). slot_of (z ∷ slots) x.segment ≡ Some x) same (found_first z slots))
found_at n (z ∷ slots) (suc k) slot up is = let there = found_at (z.segment + 1) slots k slot up.1 is in let low = up.0 in let high = there.0 in
    (omega arith, found_later z slots slot (λ e. absurd (omega arith)) there.1)

module _ (lent : HeldImages) (k : ℕ) (slot : LentSlot) (up : AscendFrom 0 (segments_in lent.slots.items)) (at : slice_get lent.slots.items k ≡ Some slot) where
  found : slot_of lent.slots.items slot.segment ≡ Some slot
  found = (found_at 0 lent.slots.items k slot up at).1

  pub image_is : the_images.image_of lent slot.segment ≡ slot.image
  image_is = ap (image_at lent.spare) found

  pub number_is : the_images.number_of lent slot.segment ≡ slot.number
  number_is = ap number_at found

-- Slots that transactions ran on

abbrev pub SameBeside : LentSlot → LentSlot → Type 0
SameBeside a b = beside b ≡ beside a

pub same_beside : (old new : HeldImages) → the_images.IsSameBeside old new → Each SameBeside old.slots.items new.slots.items
same_beside old new same = record {
  long = sym (length-map new.slots.items beside) ∙ (ap (λ (l : List (ℕ × Option ℕ × Option Picture)). length l) same.1 ∙ length-map old.slots.items beside);
  each = λ k a b a_at b_at. some_same (beside b) (beside a) (sym (got_map beside new.slots.items k b b_at) ∙ (ap (λ (l : List (ℕ × Option ℕ × Option Picture)). slice_get l k) same.1 ∙ got_map beside old.slots.items k a a_at));
}

pub same_segments : (old new : List LentSlot) → Each SameBeside old new → segments_in new ≡ segments_in old
same_segments old new e = each_map SameBeside (λ (s : LentSlot). s.segment) (λ (s : LentSlot). s.segment) old new e (λ a b same. ap (λ (t : ℕ × Option ℕ × Option Picture). t.0) same)

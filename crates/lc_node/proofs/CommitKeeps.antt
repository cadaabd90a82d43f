-- What a commit makes of held segments.
use Rattle.std.proofs.Common.{◌≡◌, ℕ, ◌+◌, ◌==◌, true, List, Some, None, length, map, refl, sym, ap, subst, ◌∙◌, arith, filter}
use Rattle.std.specs.Prelude.{slice_get, slice_index, Option, IsSome, unwrap_or}
use Rattle.std.proofs.lemmas.List.{ext_get_or, length-map}
use Rattle.std.proofs.lemmas.Option.{slice_get_within, same_Some as some_same}
use Rattle.lc_record.specs.Part.{number_in, part_of}
use Rattle.lc_record.specs.Transaction.{is_member}
use Rattle.lc_record.specs.declared.part.Part.{Part}
use Rattle.lc_record.specs.declared.record.Record.{Record}
use Rattle.lc_record.proofs.ListLemmas.{slice_get_some as some_at}
use Rattle.lc_range.specs.RangeSet.{Has}
use Rattle.lc_stage.specs.declared.stage_view.StageView.{StageView}
use Rattle.lc_token.specs.declared.token.Token.{Token}
use Rattle.lc_tx.specs.declared.holders.Holders.TheVariants.{Free}
use Rattle.lc_tx.specs.declared.image.Image.{Image as Picture}
use Rattle.lc_tx.specs.Image.{laid_over}
use Rattle.lc_tx.specs.Images.{IsHere, bytes_of}
use Rattle.lc_tx.specs.Prepared.{AreSmall, next_number, segments_of}
use Rattle.lc_tx.proofs.RecordLemmas.{inside_from}
use Rattle.lc_node.specs.Attempts.{IsUndone}
use Rattle.lc_node.specs.Commits.{IsAsBefore, HasPart, StagesWork, TakesPart, shown}
use Rattle.lc_segments.specs.Each.{Each}
use Rattle.lc_node.specs.Each.{EachThree}
use Rattle.lc_node.specs.Held.{lent_side}
use Rattle.lc_segments.specs.HeldImages.{the_images}
use Rattle.lc_segments.specs.Ran.{Tells}
use Rattle.lc_applied.specs.AppliedParts.{laid_parts}
use Rattle.lc_segments.specs.Sides.{IsOut, number_in as number_here}
use Rattle.lc_node.specs.Sides.{IsReady, IsBack, IsCounted}
use Rattle.lc_segments.specs.declared.held.HeldSide.{HeldSide}
use Rattle.lc_segments.specs.declared.lent.LentSlot.{LentSlot}
use Rattle.lc_segments.specs.declared.lent.HeldImages.{HeldImages}
use Rattle.lc_segments.proofs.Applied.{laid_is_left}
use Rattle.lc_segments.proofs.Laying.{laid_more}
use Rattle.lc_node.proofs.PartsOf.{number_made, part_is, none_set, lie_inside}
use Rattle.lc_segments.proofs.Slots.{AscendFrom, SameBeside, got_map, image_is, same_beside, each_map, each_of, member_here, segments_in, number_is, same_segments}
use Rattle.lc_node.proofs.Slots.{each_to, map_got, member_place, hidden_image}

module _ {D : Type 0} where
  abbrev pub segments : List (HeldSide D) → List ℕ
  segments sides = map (λ (h : HeldSide D). h.side.segment) sides

  -- The images are out

  module _ (sides : List (HeldSide D)) (lent : HeldImages) (out : Each IsOut sides lent.slots.items) (up : AscendFrom 0 (segments sides)) where
    pub slots_up : AscendFrom 0 (segments_in lent.slots.items)
    slots_up = subst (AscendFrom 0) (sym (each_map IsOut (λ (h : HeldSide D). h.side.segment) (λ (s : LentSlot). s.segment) sides lent.slots.items out (λ h s is. is.segment))) up

    -- what a slot has after a transaction, beside what it had
    module _ (new : HeldImages) (same : the_images.IsSameBeside lent new) where
      pub record Was (h : HeldSide D) (b : LentSlot) : Type 0 where
        pub a : LentSlot
        pub is_out : IsOut h a
        pub beside_it : SameBeside a b
        pub member : is_member h.side.segment (segments sides) ≡ true
        pub of_segment : b.segment ≡ h.side.segment
        pub old_image : the_images.image_of lent h.side.segment ≡ a.image
        pub new_image : the_images.image_of new h.side.segment ≡ b.image
        pub number : the_images.number_of lent h.side.segment ≡ a.number

      both : Each SameBeside lent.slots.items new.slots.items
      both = same_beside lent new same

      new_up : AscendFrom 0 (segments_in new.slots.items)
      new_up = subst (AscendFrom 0) (sym (same_segments lent.slots.items new.slots.items both)) slots_up

      pub was : (k : ℕ) (h : HeldSide D) (b : LentSlot) → slice_get sides k ≡ Some h → slice_get new.slots.items k ≡ Some b → Was h b
      was k h b h_at b_at = let slot = each_of SameBeside lent.slots.items new.slots.items k b both b_at in let a : LentSlot = slot.0 in
          let is : IsOut h a = out.each k h a h_at slot.1 in
          let of : b.segment ≡ h.side.segment = ap (λ (t : ℕ × Option ℕ × Option Picture). t.0) slot.2 ∙ is.segment in record {
            a = a;
            is_out = is;
            beside_it = slot.2;
            member = member_here (segments sides) k h.side.segment (got_map (λ (x : HeldSide D). x.side.segment) sides k h h_at);
            of_segment = of;
            old_image = ap (λ (n : ℕ). the_images.image_of lent n) (sym is.segment) ∙ image_is lent k a slots_up slot.1;
            new_image = ap (λ (n : ℕ). the_images.image_of new n) (sym of) ∙ image_is new k b new_up b_at;
            number = ap (λ (n : ℕ). the_images.number_of lent n) (sym is.segment) ∙ number_is lent k a slots_up slot.1;
          }

    -- The record was staged

    module _ {tells : Tells} {node : ℕ} (parts : List (Option Part)) (new : HeldImages) (before after : StageView) (w : StagesWork tells node (segments sides) lent parts new before after) where
      part_at : (k : ℕ) (h : HeldSide D) (p : Option Part) → slice_get sides k ≡ Some h → slice_get parts k ≡ Some p → p ≡ part_of h.side.segment w.whole
      part_at k h p h_at p_at =
          some_same p (part_of h.side.segment w.whole) (sym p_at ∙ (ap (λ (l : List (Option Part)). slice_get l k) w.parts_are ∙ got_map (λ (s : ℕ). part_of s w.whole) (segments sides) k h.side.segment (got_map (λ (x : HeldSide D). x.side.segment) sides k h h_at)))

pub number_some : (token : Option Token) (n : ℕ) → number_here token ≡ Some n → (t : Token) × (token ≡ Some t) × (t.seq ≡ n)
number_some None n is = absurd cc
number_some (Some t) n is = (t, refl, some_same t.seq n is)

pub some_number : (o : Option ℕ) → IsSome o → (n : ℕ) × (o ≡ Some n)
some_number None is = absurd cc
some_number (Some n) is = (n, refl)

module _ {D : Type 0} where
  -- The images are out

  module _ (sides : List (HeldSide D)) (lent : HeldImages) (out : Each IsOut sides lent.slots.items) (up : AscendFrom 0 (segments sides)) where
    -- the slot of a member
    slot_at : (s : ℕ) → is_member s (segments sides) ≡ true → (k : ℕ) × (h : HeldSide D) × (slot : LentSlot) × (slice_get lent.slots.items k ≡ Some slot) × IsOut h slot × (slot.segment ≡ s)
    slot_at s is = let at = member_place s (segments sides) is in let side = map_got (λ (h : HeldSide D). h.side.segment) sides at.0 s at.1 in
        let slot = each_to IsOut sides lent.slots.items at.0 side.0 out side.1 in
        (at.0, side.0, slot.0, slot.1, slot.2, slot.2.segment ∙ side.2)

    pub are_small : AreSmall the_images lent (segments sides)
    are_small = record {
      some = λ s is. let a = slot_at s is in let low = a.4.first in let e = a.5 in omega arith;
      few = λ s is. let a = slot_at s is in let high = a.4.last in let e = a.5 in omega arith;
      short = λ s is. let a = slot_at s is in let short = a.4.short in
          let image : the_images.image_of lent s ≡ a.2.image = ap (λ (n : ℕ). the_images.image_of lent n) (sym a.5) ∙ image_is lent a.0 a.2 (slots_up sides lent out up) a.3 in
          let n : length (bytes_of the_images lent s) ≡ length a.2.image.bytes.items = ap (λ (i : Picture). length i.bytes.items) image in omega arith;
    }

    -- a transaction that was undone leaves each slot's bytes and holders
    pub undone_slot : (new : HeldImages) (undone : IsUndone the_images (segments sides) lent new) (h : HeldSide D) (b : LentSlot) (w : (Was sides lent out up) new undone.same.beside h b) → (b.image.bytes.items ≡ w.a.image.bytes.items) × (b.image.holders ≡ w.a.image.holders)
    undone_slot new undone h b w = elim w.a.number as (λ (o : Option ℕ). w.a.number ≡ o → (b.image.bytes.items ≡ w.a.image.bytes.items) × (b.image.holders ≡ w.a.image.holders)) [
      | None ↦ λ none. let same = hidden_image w.a b w.beside_it none in (ap (λ (i : Picture). i.bytes.items) same, ap (λ (i : Picture). i.holders) same)
      | Some n ↦ λ some. let here : IsHere the_images lent h.side.segment = subst (λ (o : Option ℕ). IsSome o) (sym (w.number ∙ some)) refl in (
        sym (ap (λ (i : Picture). i.bytes.items) w.new_image) ∙ (undone.bytes h.side.segment w.member here ∙ ap (λ (i : Picture). i.bytes.items) w.old_image),
        sym (ap (λ (i : Picture). i.holders) w.new_image) ∙ (undone.holders h.side.segment w.member here ∙ ap (λ (i : Picture). i.holders) w.old_image),
      )
    ] refl

    -- its images may go back
    pub ready_undone : (new : HeldImages) → IsUndone the_images (segments sides) lent new → Each IsReady (map lent_side sides) new.slots.items
    ready_undone new undone = record {
      long = (same_beside lent new undone.same.beside).long ∙ (out.long ∙ sym (length-map sides lent_side));
      each = λ k g b g_at b_at. let side = map_got lent_side sides k g g_at in let w = (was sides lent out up) new undone.same.beside k side.0 b side.1 b_at in
          let slot = undone_slot new undone side.0 b w in
          subst (λ (x : HeldSide D). IsReady x b) side.2 (record {
            lent = refl;
            shows = slot.0 ∙ w.is_out.shows;
            free = slot.1 ∙ w.is_out.free;
          });
    }

    -- and the sides are as they were before
    pub back_undone : (new : HeldImages) → IsUndone the_images (segments sides) lent new → (after : List (HeldSide D)) → EachThree IsBack (map lent_side sides) new.slots.items after → Each IsAsBefore sides after
    back_undone new undone after back = record {
      long = back.long_too ∙ length-map sides lent_side;
      each = λ k h g h_at g_at.
          let slot = each_to SameBeside lent.slots.items new.slots.items k (each_to IsOut sides lent.slots.items k h out h_at).0 (same_beside lent new undone.same.beside) (each_to IsOut sides lent.slots.items k h out h_at).1 in
          let b : LentSlot = slot.0 in let w = (was sides lent out up) new undone.same.beside k h b h_at slot.1 in let same = undone_slot new undone h b w in
          let is : g ≡ record h { side = record h.side { image = Some b.image } } = back.each k (lent_side h) b g (got_map lent_side sides k h h_at) slot.1 g_at in
          subst (IsAsBefore h) (sym is) (record {
            same = refl;
            here = refl;
            shows = same.0 ∙ sym (ap shown w.is_out.image);
          });
    }

    -- The record was staged

    module _ {tells : Tells} {node : ℕ} (parts : List (Option Part)) (new : HeldImages) (before after : StageView) (w : StagesWork tells node (segments sides) lent parts new before after) where
      -- what a slot has then
      pub record Now (h : HeldSide D) (b : LentSlot) : Type 0 where
        pub number : ℕ
        pub here : number_here h.side.standing.token ≡ Some number
        pub bytes : b.image.bytes.items ≡ bytes_of the_images w.at_end h.side.segment
        pub free : b.image.holders ≡ Free
        pub old_bytes : bytes_of the_images lent h.side.segment ≡ laid_parts h.side.applied h.side.base
        pub same_length : length (bytes_of the_images w.at_end h.side.segment) ≡ length (bytes_of the_images lent h.side.segment)
        pub unset : (k : ℕ) → (Has w.tx.set h.side.segment k → ⊥) → slice_index (bytes_of the_images w.at_end h.side.segment) k ≡ slice_index (bytes_of the_images lent h.side.segment) k
        pub next : next_number the_images w.at_end h.side.segment ≡ number + 1
        pub was_image : h.side.image ≡ Some (the_images.image_of lent h.side.segment)

      now : (k : ℕ) (h : HeldSide D) (b : LentSlot) → slice_get sides k ≡ Some h → slice_get new.slots.items k ≡ Some b → Now h b
      now k h b h_at b_at = let x = (was sides lent out up) new w.same.beside k h b h_at b_at in let s : ℕ = h.side.segment in
          let some = some_number x.a.number (subst (λ (o : Option ℕ). IsSome o) x.number (w.leaves.here s x.member)) in record {
            number = some.0;
            here = sym x.is_out.number ∙ some.1;
            bytes = sym (ap (λ (i : Picture). i.bytes.items) x.new_image) ∙ w.bytes s x.member;
            free = sym (ap (λ (i : Picture). i.holders) x.new_image) ∙ w.free s x.member;
            old_bytes = ap (λ (i : Picture). i.bytes.items) x.old_image ∙ x.is_out.shows;
            same_length = w.leaves.same_length s x.member;
            unset = λ j none. w.leaves.unset s j x.member none;
            next = ap (λ (o : Option ℕ). unwrap_or o 0 + 1) (w.leaves.same.numbers s ∙ (x.number ∙ some.1));
            was_image = x.is_out.image ∙ ap (λ (i : Picture). Some i) (sym x.old_image);
          }

      -- the bytes that are there, with the part's ranges over what was
      laid : (h : HeldSide D) (b : LentSlot) (part : Part) → Now h b → part_of h.side.segment w.whole ≡ Some part → laid_over part.ranges (bytes_of the_images lent h.side.segment) ≡ b.image.bytes.items
      laid h b part n is = let s : ℕ = h.side.segment in
          let ranges = (part_is s w.whole part is).1 ∙ ap (λ (r : Record). filter (λ range. range.segment == s) r.ranges) w.whole_is in
          let inside = lie_inside the_images w.at_end s w.tx.set (inside_from the_images w.at_end w.tx.set w.canonical (λ x k has. (w.runs.here x (w.runs.set_locked x k has), w.runs.set_inside x k has))) in
          ap (λ rs. laid_over rs (bytes_of the_images lent s)) ranges
          ∙ (laid_is_left s (bytes_of the_images w.at_end) w.tx.set (bytes_of the_images lent s) (sym n.same_length) inside (λ k none. sym (n.unset k none))
          ∙ sym n.bytes)

      -- nothing was set there
      unchanged : (h : HeldSide D) (b : LentSlot) → Now h b → part_of h.side.segment w.whole ≡ None → b.image.bytes.items ≡ bytes_of the_images lent h.side.segment
      unchanged h b n none = let s : ℕ = h.side.segment in
          n.bytes ∙ ext_get_or 0 (bytes_of the_images w.at_end s) (bytes_of the_images lent s) n.same_length
          (λ k within. n.unset k (none_set the_images w.at_end s w.whole w.words w.tx.set w.is_record (ap (λ (r : Record). r.ranges) w.whole_is) none k))

      slot_beside : (k : ℕ) (h : HeldSide D) → slice_get sides k ≡ Some h → (b : LentSlot) × (slice_get new.slots.items k ≡ Some b) × Now h b
      slot_beside k h h_at = let a = each_to IsOut sides lent.slots.items k h out h_at in
          let b = each_to SameBeside lent.slots.items new.slots.items k a.0 (same_beside lent new w.same.beside) a.1 in
          (b.0, b.1, now k h b.0 h_at b.1)

      module _ (counted : List (HeldSide D)) (counts : EachThree IsCounted (map lent_side sides) parts counted) where
        count_at : (k : ℕ) (h g : HeldSide D) → slice_get sides k ≡ Some h → slice_get counted k ≡ Some g → IsCounted (lent_side h) (part_of h.side.segment w.whole) g
        count_at k h g h_at g_at =
            counts.each k (lent_side h) (part_of h.side.segment w.whole) g (got_map lent_side sides k h h_at)
            (ap (λ (l : List (Option Part)). slice_get l k) w.parts_are ∙ got_map (λ (s : ℕ). part_of s w.whole) (segments sides) k h.side.segment (got_map (λ (x : HeldSide D). x.side.segment) sides k h h_at)) g_at

        -- the images may go back
        ready_at : (h g : HeldSide D) (b : LentSlot) (o : Option Part) → Now h b → part_of h.side.segment w.whole ≡ o → IsCounted (lent_side h) o g → IsReady g b
        ready_at h g b None n none is = subst (λ (x : HeldSide D). IsReady x b) (sym is) (record { lent = refl; shows = unchanged h b n none ∙ n.old_bytes; free = n.free })
        ready_at h g b (Some part) n some is = subst (λ (x : HeldSide D). IsReady x b) (sym is) (record {
          lent = refl;
          shows = sym (laid h b part n some) ∙ (ap (laid_over part.ranges) n.old_bytes ∙ sym (laid_more h.side.applied part h.side.base));
          free = n.free;
        })

        pub ready_counted : Each IsReady counted new.slots.items
        ready_counted = record {
          long = (same_beside lent new w.same.beside).long ∙ (out.long ∙ (sym (length-map sides lent_side) ∙ sym counts.long_too));
          each = λ k g b g_at b_at. let side = at_all k g g_at in
              ready_at side.0 g b (part_of side.0.side.segment w.whole) (now k side.0 b side.1 b_at) refl (count_at k side.0 g side.1 g_at);
        }
          where
            at_all : (k : ℕ) (g : HeldSide D) → slice_get counted k ≡ Some g → (h : HeldSide D) × (slice_get sides k ≡ Some h)
            at_all k g g_at = some_at sides k (let l = slice_get_within counted k g g_at in let a = counts.long_too in let b = length-map sides lent_side in omega arith)

        takes_at : (h c g : HeldSide D) (b : LentSlot) (o : Option Part) → Now h b → part_of h.side.segment w.whole ≡ o → IsCounted (lent_side h) o c → IsBack c b g → TakesPart o h g
        takes_at h c g b None n none is back = subst (IsAsBefore h) (sym (back ∙ ap (λ (x : HeldSide D). record x { side = record x.side { image = Some b.image } }) is)) (record {
          same = refl;
          here = refl;
          shows = unchanged h b n none ∙ sym (ap shown n.was_image);
        })
        takes_at h c g b (Some part) n some is back = let number : number_in h.side.segment w.whole.locks ≡ Some part.seq = (part_is h.side.segment w.whole part some).0 in
            let made : part.seq ≡ next_number the_images w.at_end h.side.segment = number_made (next_number the_images w.at_end) h.side.segment part.seq (segments_of w.tx.set) (sym (ap (λ (r : Record). number_in h.side.segment r.locks) w.whole_is) ∙ number) in
            subst (HasPart part h) (sym (back ∙ ap (λ (x : HeldSide D). record x { side = record x.side { image = Some b.image } }) is)) (record {
              number = n.number;
              was = n.here;
              next = made ∙ n.next;
              is = refl;
              here = refl;
              shows = sym (laid h b part n some) ∙ ap (laid_over part.ranges) (sym (ap shown n.was_image));
            })

        -- each side has its part of the record
        pub takes_parts : (after_all : List (HeldSide D)) → EachThree IsBack counted new.slots.items after_all → Each (λ h g. TakesPart (part_of h.side.segment w.whole) h g) sides after_all
        takes_parts after_all back = record {
          long = back.long_too ∙ (counts.long_too ∙ length-map sides lent_side);
          each = λ k h g h_at g_at. let slot = slot_beside k h h_at in
              let c = some_at counted k (let l = slice_get_within sides k h h_at in let a = counts.long_too in let b = length-map sides lent_side in omega arith) in
              takes_at h c.0 g slot.0 (part_of h.side.segment w.whole) slot.2 refl (count_at k h c.0 h_at c.1) (back.each k c.0 slot.0 g c.1 slot.1 g_at);
        }

-- The bytes of held sides, and of the images that went out of them.
use Rattle.std.proofs.Common.{◌≡◌, ℕ, suc, ◌==◌, cond, Bool, true, false, ◌||◌, List, [], ◌∷◌, Some, None, map, refl, sym, ap, subst, ◌∙◌, inl, inr, arith, eqb-true}
use Rattle.std.specs.Prelude.{slice_get, Option, IsSome, IsTrue}
use Rattle.std.proofs.lemmas.Bool.{or_cases, false≢true}
use Rattle.std.proofs.lemmas.Option.{slice_get_within, same_Some as some_same}
use Rattle.lc_record.specs.Transaction.{is_member}
use Rattle.lc_record.proofs.ListLemmas.{slice_get_some as some_at}
use Rattle.lc_tx.specs.declared.holders.Holders.TheVariants.{Free}
use Rattle.lc_tx.specs.declared.image.Image.{Image as Picture}
use Rattle.lc_tx.specs.declared.tx_fault.TxFault.{TxFault}
use Rattle.lc_tx.specs.Images.{bytes_of, holders_of}
use Rattle.lc_node.specs.Attempts.{IsUnbegun}
use Rattle.lc_node.specs.Commits.{IsUnbegunOn, bytes_at, number_at, of_side, shown}
use Rattle.lc_segments.specs.Each.{Each}
use Rattle.lc_node.specs.Each.{EachThree}
use Rattle.lc_segments.specs.HeldImages.{the_images}
use Rattle.lc_segments.specs.Ran.{AgreeOn}
use Rattle.lc_segments.specs.Sides.{number_in, IsOut}
use Rattle.lc_node.specs.Sides.{IsBack, IsRoomier}
use Rattle.lc_segments.specs.declared.held.HeldSide.{HeldSide}
use Rattle.lc_segments.specs.declared.lent.LentSlot.{LentSlot}
use Rattle.lc_segments.specs.declared.lent.HeldImages.{HeldImages}
use Rattle.lc_segments.proofs.Slots.{AscendFrom, each_head, each_map, each_tail, got_map, image_is, number_is, same_beside, same_segments, segments_in}
use Rattle.lc_node.proofs.Slots.{each_to, map_got, member_place}
use Rattle.lc_node.proofs.Standing.{roomier_image, roomier_segment}

later : (x s : ℕ) (xs : List ℕ) → (x == s) ≡ false → IsTrue (is_member s (x ∷ xs)) → IsTrue (is_member s xs)
later x s xs other is = sym (ap (λ (b : Bool). b || is_member s xs) other) ∙ is

module _ {D : Type 0} where
  abbrev segments : List (HeldSide D) → List ℕ
  segments sides = map (λ (h : HeldSide D). h.side.segment) sides

  -- What is said of each side is said of its segment

  module _ {A : Type 0} (say : HeldSide D → A) (rest : A) where
    pub of_each : (xs : List (HeldSide D)) (f : ℕ → A) → ((k : ℕ) (h : HeldSide D) → slice_get xs k ≡ Some h → f h.side.segment ≡ say h) → (s : ℕ) → IsTrue (is_member s (segments xs)) → f s ≡ of_side say rest xs s
    of_each [] f each s is = absurd (false≢true is)
    of_each (h ∷ hs) f each s is = elim (h.side.segment == s) as (λ (b : Bool). (h.side.segment == s) ≡ b → f s ≡ cond b (say h) (of_side say rest hs s)) [
      | true ↦ λ own. ap f (sym (eqb-true h.side.segment s own)) ∙ each 0 h refl
      | false ↦ λ other. of_each hs f (λ k g at. each (suc k) g at) s (later h.side.segment s (segments hs) other is)
    ] refl

    -- and of the same of two lists the same
    pub of_both : (R : HeldSide D → HeldSide D → Type 0) → ((h g : HeldSide D) → R h g → (g.side.segment ≡ h.side.segment) × (say g ≡ say h)) → (xs ys : List (HeldSide D)) → Each R xs ys → (s : ℕ) → of_side say rest ys s ≡ of_side say rest xs s
    of_both R same [] [] e s = refl
    of_both R same [] (y ∷ ys) e s = absurd (let l = e.long in omega arith)
    of_both R same (x ∷ xs) [] e s = absurd (let l = e.long in omega arith)
    of_both R same (x ∷ xs) (y ∷ ys) e s =
        let p = same x y (each_head R x xs y ys e) in let next = of_both R same xs ys (each_tail R x xs y ys e) s in
        λ i. cond (p.0 i == s) (p.1 i) (next i)

  -- what the images show is the same
  abbrev Shows : HeldSide D → List ℕ
  Shows h = shown h.side.image

  abbrev number_of : HeldSide D → Option ℕ
  number_of h = number_in h.side.standing.token

  roomier_shows : (h g : HeldSide D) → IsRoomier h g → (g.side.segment ≡ h.side.segment) × (Shows g ≡ Shows h)
  roomier_shows h g more = (roomier_segment h g more, ap shown (roomier_image h g more))

  roomier_number : (h g : HeldSide D) → IsRoomier h g → (g.side.segment ≡ h.side.segment) × (number_of g ≡ number_of h)
  roomier_number h g (inl is) = (ap (λ (y : HeldSide D). y.side.segment) is, ap number_of is)
  roomier_number h g (inr is) = (ap (λ (y : HeldSide D). y.side.segment) is.1, ap number_of is.1)

  -- What is out of the sides

  module _ (xs ys : List (HeldSide D)) (lent : HeldImages) (more : Each IsRoomier xs ys) (out : Each IsOut ys lent.slots.items) (up : AscendFrom 0 (segments ys)) where
    slots_up : AscendFrom 0 (segments_in lent.slots.items)
    slots_up = subst (AscendFrom 0) (sym (each_map IsOut (λ (h : HeldSide D). h.side.segment) (λ (s : LentSlot). s.segment) ys lent.slots.items out (λ h s is. is.segment))) up

    pub out_bytes : AgreeOn (segments ys) (bytes_of the_images lent) (bytes_at xs)
    out_bytes = λ s is.
        of_each Shows [] ys (bytes_of the_images lent) (λ k h at. let slot = each_to IsOut ys lent.slots.items k h out at in
        ap (λ (n : ℕ). bytes_of the_images lent n) (sym slot.2.segment) ∙ (ap (λ (i : Picture). i.bytes.items) (image_is lent k slot.0 slots_up slot.1) ∙ sym (ap shown slot.2.image))) s is
        ∙ of_both Shows [] IsRoomier roomier_shows xs ys more s

    out_numbers : (s : ℕ) → IsTrue (is_member s (segments ys)) → the_images.number_of lent s ≡ number_at xs s
    out_numbers = λ s is.
        of_each number_of None ys (the_images.number_of lent) (λ k h at. let slot = each_to IsOut ys lent.slots.items k h out at in
        ap (λ (n : ℕ). the_images.number_of lent n) (sym slot.2.segment) ∙ (number_is lent k slot.0 slots_up slot.1 ∙ slot.2.number)) s is
        ∙ of_both number_of None IsRoomier roomier_number xs ys more s

    out_free : (s : ℕ) → IsTrue (is_member s (segments ys)) → holders_of the_images lent s ≡ Free
    out_free s is = let at = member_place s (segments ys) is in let side = map_got (λ (h : HeldSide D). h.side.segment) ys at.0 s at.1 in
        let slot = each_to IsOut ys lent.slots.items at.0 side.0 out side.1 in
        ap (λ (n : ℕ). holders_of the_images lent n) (sym (slot.2.segment ∙ side.2)) ∙ (ap (λ (i : Picture). i.holders) (image_is lent at.0 slot.0 slots_up slot.1) ∙ slot.2.free)

    among : (s : ℕ) → IsTrue (is_member s (segments ys) || is_member s []) → IsTrue (is_member s (segments ys))
    among s is = elim (or_cases (is_member s (segments ys)) (is_member s []) is) [
      | inl here ↦ here
      | inr none ↦ absurd (false≢true none)
    ]

    -- none of them is locked: one whose token is not here keeps a transaction from beginning
    pub out_unbegun : (f : TxFault) → IsUnbegun the_images lent (segments ys) f → IsUnbegunOn (segments ys) xs f
    out_unbegun f (inl a) = inl (
      a.0,
      a.1,
      record {
        member = among a.0 a.2.member;
        absent = sym (out_numbers a.0 (among a.0 a.2.member)) ∙ a.3;
        least = λ other less is. subst IsSome (out_numbers other is) ((a.2.least other less).for_writing is).0;
      },
    )
    out_unbegun f (inr (inl b)) = absurd (b.2.taken (record {
      for_writing = λ is. (b.3, out_free b.0 is);
      for_reading = λ is. absurd (false≢true is);
    }))
    out_unbegun f (inr (inr c)) = inr c

  -- What comes back to the sides

  module _ (cs last : List (HeldSide D)) (old new : HeldImages) (same : the_images.IsSameBeside old new) (back : EachThree IsBack cs new.slots.items last)
      (of : segments last ≡ segments_in old.slots.items) (up : AscendFrom 0 (segments last)) where
    now_of : segments_in new.slots.items ≡ segments last
    now_of = same_segments old.slots.items new.slots.items (same_beside old new same) ∙ sym of

    now_up : AscendFrom 0 (segments_in new.slots.items)
    now_up = subst (AscendFrom 0) (sym now_of) up

    pub back_bytes : AgreeOn (segments last) (bytes_of the_images new) (bytes_at last)
    back_bytes = of_each Shows [] last (bytes_of the_images new) (λ k g at.
        let within = slice_get_within last k g at in let a = back.long in let b = back.long_too in
        let c = some_at cs k (omega arith) in let slot = some_at new.slots.items k (omega arith) in
        let is : g ≡ record c.0 { side = record c.0.side { image = Some slot.0.image } } = back.each k c.0 slot.0 g c.1 slot.1 at in
        let own : slot.0.segment ≡ g.side.segment =
        some_same slot.0.segment g.side.segment (sym (got_map (λ (s : LentSlot). s.segment) new.slots.items k slot.0 slot.1) ∙ (ap (λ (l : List ℕ). slice_get l k) now_of ∙ got_map (λ (h : HeldSide D). h.side.segment) last k g at)) in
        ap (λ (n : ℕ). bytes_of the_images new n) (sym own) ∙ (ap (λ (i : Picture). i.bytes.items) (image_is new k slot.0 now_up slot.1) ∙ sym (ap (λ (h : HeldSide D). Shows h) is)))

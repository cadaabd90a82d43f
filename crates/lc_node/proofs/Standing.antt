-- Held sides through the steps of a commit.
use Rattle.std.proofs.Common.{◌≡◌, ℕ, zero, suc, ◌<◌, false, true≢false, Ok, Err, List, [], ◌∷◌, Some, None, length, map, refl, sym, ap, subst, ◌∙◌, inl, inr, arith, All, get_or}
use Rattle.std.specs.Prelude.{slice_get, Option, IsSome, Result, OnOk}
use Rattle.std.specs.Result.{is_err}
use Rattle.std.proofs.lemmas.Option.{slice_get_within, get_or_from_slice_get, same_Some as some_same}
use Rattle.lc_lock.specs.Loans.{IsLoanOf}
use Rattle.lc_record.specs.Part.{part_of}
use Rattle.lc_record.specs.declared.part.Part.{Part}
use Rattle.lc_record.specs.declared.record.Record.{Record}
use Rattle.lc_record.proofs.ListLemmas.{All-slice_get as all_at}
use Rattle.lc_node.specs.Commits.{IsAsBefore, IsKept, IsKeptTidy, TakesOf, TakesPart}
use Rattle.lc_segments.specs.Each.{Each}
use Rattle.lc_node.specs.Held.{IsHeldOf}
use Rattle.lc_node.specs.Sides.{IsRoomier, HasFewParts}
use Rattle.lc_segments.specs.declared.held.HeldSide.{HeldSide}
use Rattle.lc_node.specs.declared.node.Node.{Node}
use Rattle.lc_segments.proofs.Slots.{each_map, each_of}
use Rattle.lc_node.proofs.Slots.{each_to}

module _ {D : Type 0} where
  -- Parts are folded, and there is more room

  pub roomier_segment : (h x : HeldSide D) → IsRoomier h x → x.side.segment ≡ h.side.segment
  roomier_segment h x (inl is) = ap (λ (y : HeldSide D). y.side.segment) is
  roomier_segment h x (inr is) = ap (λ (y : HeldSide D). y.side.segment) is.1

  roomier_loan : (h x : HeldSide D) → IsRoomier h x → x.loan ≡ h.loan
  roomier_loan h x (inl is) = ap (λ (y : HeldSide D). y.loan) is
  roomier_loan h x (inr is) = ap (λ (y : HeldSide D). y.loan) is.1

  pub roomier_image : (h x : HeldSide D) → IsRoomier h x → x.side.image ≡ h.side.image
  roomier_image h x (inl is) = ap (λ (y : HeldSide D). y.side.image) is
  roomier_image h x (inr is) = ap (λ (y : HeldSide D). y.side.image) is.1

  pub kept_of_roomier : (xs ys zs : List (HeldSide D)) → Each IsRoomier xs ys → Each IsAsBefore ys zs → Each IsKept xs zs
  kept_of_roomier xs ys zs more e = record {
    long = e.long ∙ more.long;
    each = λ k h g h_at g_at. let x = each_to IsRoomier xs ys k h more h_at in (x.0, x.2, e.each k x.0 g x.1 g_at);
  }

  pub tidy_of_roomier : (xs ys zs : List (HeldSide D)) → Each IsRoomier xs ys → All HasFewParts ys → Each IsAsBefore ys zs → Each IsKeptTidy xs zs
  tidy_of_roomier xs ys zs more few e = record {
    long = e.long ∙ more.long;
    each = λ k h g h_at g_at. let x = each_to IsRoomier xs ys k h more h_at in (x.0, (x.2, all_at HasFewParts ys k x.0 few x.1), e.each k x.0 g x.1 g_at);
  }

  pub takes_of_roomier : (r : Record) (xs ys zs : List (HeldSide D)) → Each IsRoomier xs ys → All HasFewParts ys → Each (λ h g. TakesPart (part_of h.side.segment r) h g) ys zs → Each (TakesOf r) xs zs
  takes_of_roomier r xs ys zs more few e = record {
    long = e.long ∙ more.long;
    each = λ k h g h_at g_at. let x = each_to IsRoomier xs ys k h more h_at in
        (x.0, (x.2, all_at HasFewParts ys k x.0 few x.1), subst (λ (s : ℕ). TakesPart (part_of s r) x.0 g) (roomier_segment h x.0 x.2) (e.each k x.0 g x.1 g_at));
  }

  -- What is held stays held

  module _ (node : Node D) where
    still_held : (h g : HeldSide D) → IsHeldOf node h → g.side.segment ≡ h.side.segment → g.loan ≡ h.loan → IsSome g.side.image → IsHeldOf node g
    still_held h g held segment loan here = (held.0, held.1, held.2, segment ∙ held.3, subst (λ l. IsLoanOf held.1 l) (sym loan) held.4, here)

    held_at : (xs : List (HeldSide D)) (k : ℕ) (h : HeldSide D) → All (IsHeldOf node) xs → slice_get xs k ≡ Some h → IsHeldOf node h
    held_at xs k h all is = subst (IsHeldOf node) (get_or_from_slice_get xs k h h is) (all k h (slice_get_within xs k h is))

    same_or : (xs : List (HeldSide D)) (k : ℕ) (d : HeldSide D) → k < length xs → (h : HeldSide D) × (slice_get xs k ≡ Some h) × (get_or xs k d ≡ h)
    same_or [] k d l = absurd (omega arith)
    same_or (x ∷ xs) zero d l = (x, refl, refl)
    same_or (x ∷ xs) (suc k) d l = same_or xs k d (omega arith)

    all_still : (R : HeldSide D → HeldSide D → Type 0) → ((h g : HeldSide D) → R h g → IsHeldOf node h → IsHeldOf node g) → (xs ys : List (HeldSide D)) → Each R xs ys → All (IsHeldOf node) xs → All (IsHeldOf node) ys
    all_still R keeps xs ys e all = λ k d within. let g = same_or ys k d within in let h = each_of R xs ys k g.0 e g.1 in
        subst (IsHeldOf node) (sym g.2) (keeps h.0 g.0 h.2 (held_at xs k h.0 all h.1))

    roomier_held : (h g : HeldSide D) → IsRoomier h g → IsHeldOf node h → IsHeldOf node g
    roomier_held h g more held = still_held h g held (roomier_segment h g more) (roomier_loan h g more) (subst IsSome (sym (roomier_image h g more)) held.5)

    before_held : (h g : HeldSide D) → IsAsBefore h g → IsHeldOf node h → IsHeldOf node g
    before_held h g b held = still_held h g held (ap (λ (y : HeldSide D). y.side.segment) b.same) (ap (λ (y : HeldSide D). y.loan) b.same) b.here

    pub held_kept : (xs ys : List (HeldSide D)) → Each IsKept xs ys → All (IsHeldOf node) xs → All (IsHeldOf node) ys
    held_kept = all_still IsKept (λ h g b held. before_held b.0 g b.2 (roomier_held h b.0 b.1 held))

    takes_held : (o : Option Part) (h g : HeldSide D) → TakesPart o h g → IsHeldOf node h → IsHeldOf node g
    takes_held None h g b held = before_held h g b held
    takes_held (Some part) h g t held = still_held h g held (ap (λ (y : HeldSide D). y.side.segment) t.is) (ap (λ (y : HeldSide D). y.loan) t.is) t.here

    pub held_takes : (r : Record) (xs ys : List (HeldSide D)) → Each (TakesOf r) xs ys → All (IsHeldOf node) xs → All (IsHeldOf node) ys
    held_takes r = all_still (TakesOf r) (λ h g t held. takes_held (part_of h.side.segment r) t.0 g t.2 (roomier_held h t.0 t.1.0 held))

    -- the image of each is here
    pub held_here : (xs : List (HeldSide D)) → All (IsHeldOf node) xs → All (λ (h : HeldSide D). IsSome h.side.image) xs
    held_here xs all = λ k d within. (all k d within).5

    -- sides that are held are as they were
    pub same_before : (xs : List (HeldSide D)) → All (IsHeldOf node) xs → Each IsAsBefore xs xs
    same_before xs all = record {
      long = refl;
      each = λ k h g h_at g_at. let same : h ≡ g = some_same h g (sym h_at ∙ g_at) in
          subst (IsAsBefore h) same (record { same = refl; here = (held_at xs k h all h_at).5; shows = refl });
    }

    pub same_kept : (xs : List (HeldSide D)) → All (IsHeldOf node) xs → Each IsKept xs xs
    same_kept xs all = let e = same_before xs all in record { long = refl; each = λ k h g h_at g_at. (h, inl refl, e.each k h g h_at g_at) }

  -- The segments are the same

  pub segments_kept : (xs ys : List (HeldSide D)) → Each IsKept xs ys → map (λ (h : HeldSide D). h.side.segment) ys ≡ map (λ (h : HeldSide D). h.side.segment) xs
  segments_kept xs ys e = each_map IsKept (λ (h : HeldSide D). h.side.segment) (λ (h : HeldSide D). h.side.segment) xs ys e (λ h g b. ap (λ (y : HeldSide D). y.side.segment) b.2.same ∙ roomier_segment h b.0 b.1)

  pub takes_segment : (o : Option Part) (h g : HeldSide D) → TakesPart o h g → g.side.segment ≡ h.side.segment
  takes_segment None h g b = ap (λ (y : HeldSide D). y.side.segment) b.same
  takes_segment (Some part) h g t = ap (λ (y : HeldSide D). y.side.segment) t.is

  pub segments_takes : (r : Record) (xs ys : List (HeldSide D)) → Each (TakesOf r) xs ys → map (λ (h : HeldSide D). h.side.segment) ys ≡ map (λ (h : HeldSide D). h.side.segment) xs
  segments_takes r xs ys e = each_map (TakesOf r) (λ (h : HeldSide D). h.side.segment) (λ (h : HeldSide D). h.side.segment) xs ys e (λ h g t. takes_segment (part_of h.side.segment r) t.0 g t.2 ∙ roomier_segment h t.0 t.1.0)

  pub segments_roomier : (xs ys : List (HeldSide D)) → Each IsRoomier xs ys → map (λ (h : HeldSide D). h.side.segment) ys ≡ map (λ (h : HeldSide D). h.side.segment) xs
  segments_roomier xs ys e = each_map IsRoomier (λ (h : HeldSide D). h.side.segment) (λ (h : HeldSide D). h.side.segment) xs ys e roomier_segment

-- what holds where a value came
pub on_ok : {T E : Type 0} (r : Result T E) (P : Type 0) → is_err r ≡ false → OnOk r P → P
on_ok (Ok x) P fine p = p
on_ok (Err e) P fine p = absurd (true≢false fine)

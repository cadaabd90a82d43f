-- The ways of a commit: its images go out of sides with more room, and come back.
use Rattle.std.proofs.Common.{◌≡◌, ◌∙◌, ℕ, ◌<◌, List, map, All, inr, sym, ap, subst}
use Rattle.std.specs.Prelude.{Option, Result, Ok}
use Rattle.lc_record.specs.Record.{Chain}
use Rattle.lc_record.specs.declared.part.Part.{Part}
use Rattle.lc_record.specs.declared.record.Record.{Record}
use Rattle.lc_stage.specs.declared.stage_view.StageView.{StageView}
use Rattle.lc_tx.specs.declared.tx_fault.TxFault.{TxFault}
use Rattle.lc_tx.specs.Images.{bytes_of}
use Rattle.lc_tx.specs.Prepared.{AreSmall}
use Rattle.lc_node.specs.Attempts.{IsUnbegun, IsUndone}
use Rattle.lc_node.specs.Commits.{CommitsWork, IsAsBefore, IsKept, IsKeptTidy, IsUnbegunOn, IsUncommitted, IsUnstaged, StagesWork, TakesOf, bytes_at}
use Rattle.lc_segments.specs.Each.{Each}
use Rattle.lc_node.specs.Each.{EachThree}
use Rattle.lc_node.specs.Held.{lent_side}
use Rattle.lc_segments.specs.HeldImages.{the_images}
use Rattle.lc_segments.specs.Ran.{AgreeOn, Ran, Runs, Tells}
use Rattle.lc_segments.specs.Sides.{IsOut}
use Rattle.lc_node.specs.Sides.{IsReady, IsBack, IsCounted, IsRoomier, HasFewParts}
use Rattle.lc_segments.specs.declared.held.HeldSide.{HeldSide}
use Rattle.lc_segments.specs.declared.lent.HeldImages.{HeldImages}
use Rattle.lc_segments.specs.declared.lent.LentSlot.{LentSlot}
use Rattle.lc_segments.specs.declared.node_fault.NodeFault.{NodeFault}
use Rattle.lc_node.proofs.CommitKeeps.{are_small, ready_undone, back_undone, ready_counted, takes_parts}
use Rattle.lc_node.proofs.Runs.{ran_as, unstaged_as}
use Rattle.lc_node.proofs.SideBytes.{back_bytes, out_bytes, out_unbegun}
use Rattle.lc_segments.proofs.Slots.{AscendFrom, each_map, segments_in}
use Rattle.lc_node.proofs.Slots.{ascend_from}
use Rattle.lc_node.proofs.Standing.{kept_of_roomier, tidy_of_roomier, takes_of_roomier, segments_roomier, segments_takes}

module _ {D : Type 0} (xs ys zs : List (HeldSide D)) (lent : HeldImages) (segments : List ℕ)
    (same : segments ≡ map (λ (h : HeldSide D). h.side.segment) xs) (up : Chain (λ a b. a < b) (map (λ (h : HeldSide D). h.side.segment) xs))
    (more : Each IsRoomier xs ys) (out : Each IsOut ys lent.slots.items) (gone : zs ≡ map lent_side ys) where
  again : segments ≡ map (λ (h : HeldSide D). h.side.segment) ys
  again = same ∙ sym (segments_roomier xs ys more)

  ascend : AscendFrom 0 (map (λ (h : HeldSide D). h.side.segment) ys)
  ascend = subst (AscendFrom 0) (sym (segments_roomier xs ys more)) (ascend_from (map (λ (h : HeldSide D). h.side.segment) xs) up)

  pub small : AreSmall the_images lent segments
  small = subst (λ (l : List ℕ). AreSmall the_images lent l) (sym again) (are_small ys lent out ascend)

  -- What is out shows what the sides showed, and what comes back is what they show then

  old_agree : AgreeOn segments (bytes_of the_images lent) (bytes_at xs)
  old_agree = subst (λ (l : List ℕ). AgreeOn l (bytes_of the_images lent) (bytes_at xs)) (sym again) (out_bytes xs ys lent more out ascend)

  slots_are : map (λ (h : HeldSide D). h.side.segment) xs ≡ segments_in lent.slots.items
  slots_are = sym (segments_roomier xs ys more) ∙ sym (each_map IsOut (λ (h : HeldSide D). h.side.segment) (λ (s : LentSlot). s.segment) ys lent.slots.items out (λ h s is. is.segment))

  pub ran_of : {tells : Tells} {set : Runs} (answer : Result (Unit {0}) TxFault) (new : HeldImages) → the_images.IsSameBeside lent new → (cs last : List (HeldSide D)) → EachThree IsBack cs new.slots.items last
      → map (λ (h : HeldSide D). h.side.segment) last ≡ map (λ (h : HeldSide D). h.side.segment) xs → Ran tells segments (bytes_of the_images lent) answer (bytes_of the_images new) set
      → Ran tells (map (λ (h : HeldSide D). h.side.segment) xs) (bytes_at xs) answer (bytes_at last) set
  ran_of {tells} {set} answer new beside cs last back of ran =
      let up_last : AscendFrom 0 (map (λ (h : HeldSide D). h.side.segment) last) = subst (AscendFrom 0) (sym of) (ascend_from (map (λ (h : HeldSide D). h.side.segment) xs) up) in
      let new_agree : AgreeOn segments (bytes_of the_images new) (bytes_at last) = subst (λ (l : List ℕ). AgreeOn l (bytes_of the_images new) (bytes_at last)) (of ∙ sym same) (back_bytes cs last lent new beside back (of ∙ slots_are) up_last) in
      subst (λ (l : List ℕ). Ran tells l (bytes_at xs) answer (bytes_at last) set) same (ran_as tells segments answer (bytes_of the_images lent) (bytes_of the_images new) (bytes_at xs) (bytes_at last) old_agree new_agree ran)

  pub why_of : {tells : Tells} (room tries seen : ℕ) (fault : NodeFault) → IsUnstaged tells (IsUnbegun the_images lent segments) segments (bytes_of the_images lent) room tries seen fault
      → IsUncommitted tells (IsUnbegunOn (map (λ (h : HeldSide D). h.side.segment) xs) xs) (map (λ (h : HeldSide D). h.side.segment) xs) (bytes_at xs) room tries seen fault
  why_of {tells} room tries seen fault why =
      let unbegun : (f : TxFault) → IsUnbegun the_images lent segments f → IsUnbegunOn segments xs f =
      λ f u. subst (λ (l : List ℕ). IsUnbegunOn l xs f) (sym again) (out_unbegun xs ys lent more out ascend f (subst (λ (l : List ℕ). IsUnbegun the_images lent l f) again u)) in
      inr (subst (λ (l : List ℕ). IsUnstaged tells (IsUnbegunOn l xs) l (bytes_at xs) room tries seen fault) same
      (unstaged_as tells (IsUnbegun the_images lent segments) (IsUnbegunOn segments xs) segments (bytes_of the_images lent) (bytes_at xs) room tries seen fault unbegun old_agree why))

  -- The work was undone, or set nothing

  module _ (new : HeldImages) (undone : IsUndone the_images segments lent new) where
    of_all : IsUndone the_images (map (λ (h : HeldSide D). h.side.segment) ys) lent new
    of_all = subst (λ (l : List ℕ). IsUndone the_images l lent new) again undone

    pub may_return : Each IsReady zs new.slots.items
    may_return = subst (λ (l : List (HeldSide D)). Each IsReady l new.slots.items) (sym gone) (ready_undone ys lent out ascend new of_all)

    back_before : (after : List (HeldSide D)) → EachThree IsBack zs new.slots.items after → Each IsAsBefore ys after
    back_before after back = back_undone ys lent out ascend new of_all after (subst (λ (l : List (HeldSide D)). EachThree IsBack l new.slots.items after) gone back)

    pub returned : (after : List (HeldSide D)) → EachThree IsBack zs new.slots.items after → Each IsKept xs after
    returned after back = kept_of_roomier xs ys after more (back_before after back)

    pub returned_tidy : All HasFewParts ys → (after : List (HeldSide D)) → EachThree IsBack zs new.slots.items after → Each IsKeptTidy xs after
    returned_tidy few after back = tidy_of_roomier xs ys after more few (back_before after back)

  -- The record was staged

  module _ {tells : Tells} {node : ℕ} (parts : List (Option Part)) (new : HeldImages) (before after : StageView) (w : StagesWork tells node segments lent parts new before after) where
    pub staged : StagesWork tells node (map (λ (h : HeldSide D). h.side.segment) ys) lent parts new before after
    staged = subst (λ (l : List ℕ). StagesWork tells node l lent parts new before after) again w

    module _ (counted : List (HeldSide D)) (counts : EachThree IsCounted zs parts counted) where
      these : EachThree IsCounted (map lent_side ys) parts counted
      these = subst (λ (l : List (HeldSide D)). EachThree IsCounted l parts counted) gone counts

      pub may_go_back : Each IsReady counted new.slots.items
      may_go_back = ready_counted ys lent out ascend parts new before after staged counted these

      pub taken : All HasFewParts ys → (last : List (HeldSide D)) → EachThree IsBack counted new.slots.items last → Each (TakesOf staged.whole) xs last
      taken few last back = takes_of_roomier staged.whole xs ys last more few (takes_parts ys lent out ascend parts new before after staged counted these last back)

      -- the record of the runs that were set, and what each side took of it
      pub all_of_it : All HasFewParts ys → (last : List (HeldSide D)) → EachThree IsBack counted new.slots.items last → CommitsWork node tells xs last before after
      all_of_it few last back =
          let takes = taken few last back in record {
            set = staged.tx.set;
            ran = ran_of (Ok tt) new w.same.beside counted last back (segments_takes staged.whole xs last takes)
                (subst (λ (l : List ℕ). Ran tells l (bytes_of the_images lent) (Ok tt) (bytes_of the_images new) staged.tx.set) (sym again) staged.ran);
            whole = staged.whole;
            words = staged.words;
            is_record = staged.is_record;
            named = ap (λ (r : Record). r.node) staged.whole_is;
            of_runs = staged.of_runs;
            closes = staged.closes;
            takes = takes;
          }

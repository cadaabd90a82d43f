use Rattle.std.proofs.Common.{rules, ◌≡◌, ◌+◌, ◌<◌, ◌≤◌, ℕ, All, ◌++◌, length, true, false, sym, subst, ◌∙◌, arith, vec_capacity}
use Rattle.lc_record.specs.Transaction.{is_member}
use Rattle.lc_node.specs.Held.{HasSegment}
use Rattle.lc_node.specs.MakingRoom.{AllHeld}
use Rattle.lc_segments.specs.declared.held.HeldSide.{HeldSide}
use Rattle.lc_node.proofs.AllHeld.{HoldsTo, all_held, holds_asked, holds_other}
use Rattle.lc_node.proofs.SegmentLocks.{held_now}
use Rattle.lc_node.proofs.node.Node.hold_all.Goals as goal
use Rattle.lc_node.proofs.node.Node.hold_all.Goals.{then-is_asked, else-is_asked}

pub loop-place-preserved : goal.loop-place-preserved
loop-place-preserved g c = let node = c.args.self.now in let n : ℕ = c.loop-place.place in let inv = c.loop-place.invariant in
    let within : n < length node.segments.items = (let more = c.loop-place-test.true in let len = c.len-place-end.ensures in let ok = node.segments.ok.0 in omega arith) in
    let h : HeldSide g.row.D.Denot = record { side = c.lock-side.result.0; loan = c.lock-side.result.1 } in
    let now = held_now node h c.index.result.now n within c.index.ensures c.lock-side.ensures.fits.0 c.lock-side.ensures.loan c.lock-side.ensures.fits.1 in record {
      holds = elim c.if-is_asked.branch [
        | then-is_asked w ↦ (let is : is_member (n + 1) c.args.segments.now ≡ true = sym c.is_asked.ensures ∙ w.if-is_asked.true in
            let next = holds_asked node c.args.segments.now n c.loop-place.asked.items c.loop-place.others.items h inv.holds now.0 now.1 is in
            subst (λ v. HoldsTo node c.args.segments.now (n + 1) v.items c.if-is_asked.others.items) (sym w.asked-is)
            (subst (λ v. HoldsTo node c.args.segments.now (n + 1) w.push_reserved.new.self.items v.items) (sym w.others-is)
            (subst (λ l. HoldsTo node c.args.segments.now (n + 1) l c.loop-place.others.items) (sym w.push_reserved.ensures.items) next)))
        | else-is_asked w ↦ (let not : is_member (n + 1) c.args.segments.now ≡ false = sym c.is_asked.ensures ∙ w.if-is_asked.false in
            let next = holds_other node c.args.segments.now n c.loop-place.asked.items c.loop-place.others.items h inv.holds now.0 now.1 not in
            subst (λ v. HoldsTo node c.args.segments.now (n + 1) v.items c.if-is_asked.others.items) (sym w.asked-is)
            (subst (λ v. HoldsTo node c.args.segments.now (n + 1) c.loop-place.asked.items v.items) (sym w.others-is)
            (subst (λ l. HoldsTo node c.args.segments.now (n + 1) c.loop-place.asked.items l) (sym w.push_reserved-else-is_asked.ensures.items) next)))
      ];
      room = elim c.if-is_asked.branch [
        | then-is_asked w ↦ subst (λ v. length node.segments.items ≤ vec_capacity v) (sym w.asked-is) (search rules)
        | else-is_asked w ↦ subst (λ v. length node.segments.items ≤ vec_capacity v) (sym w.asked-is) inv.room
      ];
      room_too = elim c.if-is_asked.branch [
        | then-is_asked w ↦ subst (λ v. length node.segments.items ≤ vec_capacity v) (sym w.others-is) inv.room_too
        | else-is_asked w ↦ subst (λ v. length node.segments.items ≤ vec_capacity v) (sym w.others-is) (search rules)
      ];
    }

pub returns-clause-held : goal.returns-clause-held
returns-clause-held g c = let node = c.args.self.now in let asked = c.loop-place.asked.items in let others = c.loop-place.others.items in
    let whole : c.loop-place.place ≡ length node.segments.items = (let end = c.loop-place-test.false in let auto = c.loop-place.auto.place-end in let len = c.len-place-end.ensures in let ok = node.segments.ok.0 in omega arith) in
    let here : All (HasSegment node) c.args.segments.now = search rules in
    let count : c.len-count.result ≡ length asked = (let len = c.len-count.ensures in let ok = c.loop-place.asked.ok.0 in omega arith) in
    let moved : c.append.new.self.items ≡ asked ++ others = c.in-Ok-append.ensures.items in
    subst (λ l. AllHeld node c.args.segments.now c.len-count.result l) (sym moved)
    (subst (λ k. AllHeld node c.args.segments.now k (asked ++ others)) (sym count)
    (all_held node c.args.segments.now asked others (subst (λ k. HoldsTo node c.args.segments.now k asked others) whole c.loop-place.invariant.holds) here))

use Rattle.std.proofs.Common.{rules, ◌≡◌, ◌+◌, ◌<◌, ◌≤◌, ℕ, [], ◌∷◌, ◌++◌, All, length, map, true, false, sym, ap, subst, ◌∙◌, arith, length-append, vec_capacity}
use Rattle.std.proofs.lemmas.List.{map-append}
use Rattle.std.proofs.lemmas.List.Elements.{All-append}
use Rattle.lc_record.specs.Transaction.{is_member}
use Rattle.lc_tx.specs.Tx.{IsSetOf}
use Rattle.lc_node.specs.Held.{HasSegment, IsHeldOf}
use Rattle.lc_segments.specs.declared.held.HeldSide.{HeldSide}
use Rattle.lc_node.proofs.Asking.{asked_to, asked_more, asked_same, asked_all}
use Rattle.lc_log_side.proofs.Knowing.{all_alone}
use Rattle.lc_node.proofs.SegmentLocks.{held_now}
use Rattle.lc_node.proofs.node.Node.hold.Goals.{then-is_asked, else-is_asked}
use Rattle.lc_node.proofs.node.Node.hold.Goals as goal

pub loop-place-preserved : goal.loop-place-preserved
loop-place-preserved g c = let inv = c.loop-place.invariant in let node = c.args.self.now in let n : ℕ = c.loop-place.place in
    let within : n < length node.segments.items = (let more = c.loop-place-test.true in let len = c.len-place-end.ensures in let ok = node.segments.ok.0 in omega arith) in record {
      held = elim c.if-is_asked.branch [
        | then-is_asked w ↦ (let h : HeldSide g.row.D.Denot = record { side = w.lock-side.result.0; loan = w.lock-side.result.1 } in
            let now = held_now node h w.index.result.now n within w.index.ensures w.lock-side.ensures.fits.0 w.lock-side.ensures.loan w.lock-side.ensures.fits.1 in
            subst (λ v. All (IsHeldOf node) v.items) (sym w.sides-is) (subst (All (IsHeldOf node)) (sym w.push_reserved.ensures.items) (All-append (IsHeldOf node) c.loop-place.sides.items (h ∷ []) inv.held (all_alone (IsHeldOf node) h now.0))))
        | else-is_asked w ↦ subst (λ v. All (IsHeldOf node) v.items) (sym w.sides-is) inv.held
      ];
      segments = elim c.if-is_asked.branch [
        | then-is_asked w ↦ (let h : HeldSide g.row.D.Denot = record { side = w.lock-side.result.0; loan = w.lock-side.result.1 } in
            let now = held_now node h w.index.result.now n within w.index.ensures w.lock-side.ensures.fits.0 w.lock-side.ensures.loan w.lock-side.ensures.fits.1 in
            let is : is_member (n + 1) c.args.segments.now ≡ true = sym c.is_asked.ensures ∙ w.if-is_asked.true in
            ap (λ v. map (λ (x : HeldSide g.row.D.Denot). x.side.segment) v.items) w.sides-is
            ∙ (ap (λ l. map (λ (x : HeldSide g.row.D.Denot). x.side.segment) l) w.push_reserved.ensures.items
            ∙ (map-append (λ (x : HeldSide g.row.D.Denot). x.side.segment) c.loop-place.sides.items (h ∷ [])
            ∙ ((λ k. inv.segments k ++ now.1 k ∷ []) ∙ sym (asked_more c.args.segments.now n is)))))
        | else-is_asked w ↦ (let not : is_member (n + 1) c.args.segments.now ≡ false = sym c.is_asked.ensures ∙ w.if-is_asked.false in
            ap (λ v. map (λ (x : HeldSide g.row.D.Denot). x.side.segment) v.items) w.sides-is ∙ (inv.segments ∙ sym (asked_same c.args.segments.now n not)))
      ];
      long = elim c.if-is_asked.branch [
        | then-is_asked w ↦ subst (λ v. length v.items ≤ n + 1) (sym w.sides-is) (subst (λ l. length l ≤ n + 1) (sym w.push_reserved.ensures.items) (let more = length-append c.loop-place.sides.items (record { side = w.lock-side.result.0; loan = w.lock-side.result.1 } ∷ []) in let long = inv.long in omega arith))
        | else-is_asked w ↦ subst (λ v. length v.items ≤ n + 1) (sym w.sides-is) (let long = inv.long in omega arith)
      ];
      room = elim c.if-is_asked.branch [
        | then-is_asked w ↦ subst (λ v. length node.segments.items ≤ vec_capacity v) (sym w.sides-is) (search rules)
        | else-is_asked w ↦ subst (λ v. length node.segments.items ≤ vec_capacity v) (sym w.sides-is) inv.room
      ];
    }

pub returns-clause-segments : goal.returns-clause-segments
returns-clause-segments g c = let node = c.args.self.now in
    let whole : c.loop-place.place ≡ length node.segments.items = (let end = c.loop-place-test.false in let auto = c.loop-place.auto.place-end in let len = c.len-place-end.ensures in let ok = node.segments.ok.0 in omega arith) in
    let here : All (HasSegment node) c.args.segments.now = search rules in
    subst (IsSetOf c.args.segments.now) (sym (c.loop-place.invariant.segments ∙ ap (asked_to c.args.segments.now) whole)) (asked_all c.args.segments.now (length node.segments.items) here)

use Rattle.std.proofs.Common.{rules, refl, arith, ap, ◌∙◌}
use Rattle.lc_node.specs.Receptions.{IsPrepared}
use Rattle.lc_segments.specs.Receptions.{IsReceived}
use Rattle.lc_node.proofs.Pushing.{next, all_more}
use Rattle.lc_node.proofs.receiving_records.prepare_all.Goals as goal
use Rattle.lc_segments.specs.SegView.{SegView}
use Rattle.lc_segments.specs.declared.held.HeldSide.{HeldSide}
use Rattle.lc_log_side.proofs.BoxedSides.{at_place}
use Rattle.lc_node.proofs.receiving_records.prepare_all.Goals.{then-whole, else-whole}

pub loop-place-preserved : goal.loop-place-preserved
loop-place-preserved g c = let inv = c.loop-place.invariant in let h : HeldSide _ = record { side = c.deref_mut.result.now; loan = c.held.inside.0.1.0 } in
    let len = c.len-place-end.ensures in let ok = c.args.sides.now.ok.0 in let long = inv.prepared.long in let more = c.loop-place-test.true in record {
      prepared = next (IsPrepared c.args.record.now) c.args.sides.now.items c.loop-place.sides.items c.loop-place.receptions.items c.push_reserved.new.self.items c.loop-place.place h c.prepare-reception.result (record { side = c.prepare-reception.new.self; loan = h.loan })
          inv.prepared (omega arith) (at_place c.loop-place.sides.items c.loop-place.place c.index_mut-held.result.now (record { side = c.deref_mut.result.now; loan = c.held.inside.0.1.0 }) (ap (λ (s : SegView _). record { side = s; loan = c.held.inside.0.1.0 }) c.deref_mut.ensures.value ∙ c.held.view_is) c.index_mut-held.ensures.value) c.push_reserved.ensures.items (record { prepares = c.prepare-reception.ensures; same = refl });
      whole = elim c.if-whole.branch [
        | then-whole w ↦ λ is. all_more IsReceived c.loop-place.receptions.items c.push_reserved.new.self.items c.prepare-reception.result c.push_reserved.ensures.items (inv.whole w.if-whole.true) (w.is_received-whole.ensures.0 (search rules))
        | else-whole w ↦ λ is. absurd (let no = w.whole-is in cc)
      ];
      lacking = λ is. omega arith;
      room = search rules;
    }

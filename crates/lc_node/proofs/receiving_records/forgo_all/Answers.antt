use Rattle.std.proofs.Common.{rules, ◌≡◌, get_or, ℕ, length, set, refl, sym, ap, subst, ◌∙◌, arith}
use Rattle.lc_node.specs.Delivering.{IsReadiedSide}
use Rattle.lc_node.specs.Receptions.{IsForgone, IsPrepared}
use Rattle.lc_node.proofs.Backwards.{Backwards, step, finish}
use Rattle.lc_node.proofs.Deliveries.{joined, forgone_side}
use Rattle.lc_segments.specs.SegView.{SegView}
use Rattle.lc_segments.specs.declared.held.HeldSide.{HeldSide}
use Rattle.lc_log_side.proofs.BoxedSides.{at_place}
use Rattle.lc_node.proofs.receiving_records.forgo_all.Goals as goal

pub loop-reception-preserved : goal.loop-reception-preserved
loop-reception-preserved g c = let h : HeldSide _ = record { side = c.deref_mut.result.now; loan = c.held.inside.0.1.0 } in
    let e : c.len.result ≡ length c.pop.new.self.items = (let a = c.len.ensures in let b = c.pop.new.self.ok.0 in omega arith) in
    let at = step IsForgone _ _ _ _ c.pop.new.self.items c.in-Some.reception h c.loop-reception.invariant c.in-Some.ensures.items ((at_place c.loop-reception.sides.items c.len.result c.index_mut-held.result.now (record { side = c.deref_mut.result.now; loan = c.held.inside.0.1.0 }) (ap (λ (s : SegView _). record { side = s; loan = c.held.inside.0.1.0 }) c.deref_mut.ensures.value ∙ c.held.view_is) c.index_mut-held.ensures.value) ∙ ap (λ (n : ℕ). get_or c.loop-reception.sides.items n h) e) in
    subst (λ (n : ℕ). Backwards IsForgone c.args.sides.now.items (set c.loop-reception.sides.items n (record { side = c.forgo.new.self; loan = h.loan })) c.args.receptions.items c.pop.new.self.items) (sym e)
    (at.2 (record { side = c.forgo.new.self; loan = h.loan }) (refl, c.forgo.ensures))

pub returns : goal.returns
returns g c = λ r before ready. joined (IsPrepared r) IsForgone IsReadiedSide (λ x m z y. forgone_side r x m z y) before c.args.sides.now.items c.loop-reception.sides.items c.args.receptions.items ready
    (finish IsForgone _ _ _ _ c.loop-reception.invariant (search rules))

use Rattle.std.proofs.Common.{rules, ◌≡◌, ℕ, get_or, length, set, sym, ap, subst, ◌∙◌, arith}
use Rattle.lc_node.proofs.Backwards.{step}
use Rattle.lc_node.proofs.Deliveries.{Finishing, IsFinishedSo, by_first, by_second, next_finished, all_delivered, first_answered}
use Rattle.lc_node.proofs.receiving_records.finish_all.Goals as goal

pub finish_side-here-requires-clause-ready : goal.finish_side-here-requires-clause-ready
finish_side-here-requires-clause-ready g c = let h = c.index_mut-held.result.now in
    let e : c.len.result ≡ length c.pop.new.self.items = (let a = c.len.ensures in let b = c.pop.new.self.ok.0 in omega arith) in
    let at = step IsFinishedSo _ _ _ _ c.pop.new.self.items c.in-Some.reception h c.loop-reception.invariant.finished c.in-Some.ensures.items (c.index_mut-held.ensures.value ∙ ap (λ (n : ℕ). get_or c.loop-reception.sides.items n h) e) in
    c.requires.ready.each _ _ _ at.0 at.1

pub loop-reception-preserved-then-here : goal.loop-reception-preserved-then-here
loop-reception-preserved-then-here g c = let h = c.index_mut-held.result.now in let one = c.finish_side-here in
    let e : c.len.result ≡ length c.pop.new.self.items = (let a = c.len.ensures in let b = c.pop.new.self.ok.0 in omega arith) in
    subst (λ (n : ℕ). Finishing c.args.sides.now.items (set c.loop-reception.sides.items n one.new.held) c.args.receptions.items c.pop.new.self.items one.result.first one.result.arrived) (sym e)
    (next_finished _ _ _ _ c.pop.new.self.items one.result.first _ _ one.result.arrived one.result.arrived c.in-Some.reception h one.new.held c.loop-reception.invariant c.in-Some.ensures.items
    (c.index_mut-held.ensures.value ∙ ap (λ (n : ℕ). get_or c.loop-reception.sides.items n h) e) one.ensures.finished one.ensures.arrived one.ensures.here (by_first one.result.arrived c.loop-reception.done.arrived c.if-here.true))

pub loop-reception-preserved : goal.loop-reception-preserved
loop-reception-preserved g c = let h = c.index_mut-held.result.now in let one = c.finish_side-here in
    let e : c.len.result ≡ length c.pop.new.self.items = (let a = c.len.ensures in let b = c.pop.new.self.ok.0 in omega arith) in
    subst (λ (n : ℕ). Finishing c.args.sides.now.items (set c.loop-reception.sides.items n one.new.held) c.args.receptions.items c.pop.new.self.items one.result.first c.loop-reception.done.arrived) (sym e)
    (next_finished _ _ _ _ c.pop.new.self.items one.result.first _ _ one.result.arrived c.loop-reception.done.arrived c.in-Some.reception h one.new.held c.loop-reception.invariant c.in-Some.ensures.items
    (c.index_mut-held.ensures.value ∙ ap (λ (n : ℕ). get_or c.loop-reception.sides.items n h) e) one.ensures.finished one.ensures.arrived one.ensures.here (by_second one.result.arrived c.loop-reception.done.arrived c.if-here.false))

pub returns-clause-delivered : goal.returns-clause-delivered
returns-clause-delivered g c = λ r before ready. all_delivered r before _ _ _ c.loop-reception.receptions.items _ _ ready c.loop-reception.invariant (search rules)

pub returns-clause-first : goal.returns-clause-first
returns-clause-first g c = λ r before ready. first_answered r before _ _ _ c.loop-reception.receptions.items _ _ ready c.loop-reception.invariant (search rules)

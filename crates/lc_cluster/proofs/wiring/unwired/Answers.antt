use Rattle.std.proofs.Common.{rules, sym, ap, ◌∙◌, arith}
use Rattle.lc_cluster.specs.declared.wiring.NodeEnds.{NodeEnds}
use Rattle.lc_cluster.proofs.Wired.{HasNone, all_pushed, none_wired, numbered_more}
use Rattle.lc_cluster.proofs.wiring.unwired.Goals as goal

pub loop-node-preserved : goal.loop-node-preserved
loop-node-preserved g c = let inv = c.loop-node.invariant in let all = c.loop-node.all.items in let mine : NodeEnds g.row.P.Denot = record { to = c.new-to.result; from = c.new-from.result } in record {
  count = search rules;
  room = search rules;
  numbers = numbered_more c.push_reserved.new.self.items all mine c.push_reserved.ensures.items (c.new-from.ensures.node ∙ sym inv.count) inv.numbers;
  none = all_pushed HasNone c.push_reserved.new.self.items all mine c.push_reserved.ensures.items inv.none (
    ap (λ v. v.items) c.new-to.ensures ∙ c.in_ok-with_capacity.ensures.items,
    ap (λ v. v.items) c.new-from.ensures.ends ∙ c.in_ok-with_capacity-2.ensures.items,
  );
}

pub returns : goal.returns
returns g c = none_wired c.args.nodes c.loop-node.all.items (let count = c.loop-node.invariant.count in omega arith) c.loop-node.invariant.numbers c.loop-node.invariant.none

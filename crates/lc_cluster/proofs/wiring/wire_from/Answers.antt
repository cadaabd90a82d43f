use Rattle.std.proofs.Common.{◌≡◌, ◌+◌, length, sym, ap, subst, ◌∙◌, arith}
use Rattle.lc_cluster.specs.Wiring.{AreWired}
use Rattle.lc_cluster.proofs.Wired.{none_to_itself, node_wired}
use Rattle.lc_cluster.proofs.wiring.wire_from.Goals as goal
use Rattle.lc_cluster.proofs.wiring.wire_from.Goals.{then-to-from+in_ok-connect, else-to-from}

pub loop-to-preserved : goal.loop-to-preserved
loop-to-preserved g c = let inv = c.loop-to.invariant in let from = c.args.from in let to = c.loop-to.to in elim c.if-to-from.branch [
  | then-to-from+in_ok-connect w ↦ record {
    count = ap (λ v. length v.items) w.all-is ∙ (w.connect.ensures.count ∙ inv.count);
    wired = λ nodes before. subst (λ v. AreWired nodes from (to + 1) v.items) (sym w.all-is) (w.in_ok-connect.ensures.wired nodes (inv.wired nodes before));
  }
  | else-to-from w ↦ record {
    count = ap (λ v. length v.items) w.all-is ∙ inv.count;
    wired = λ nodes before. subst (λ v. AreWired nodes from (to + 1) v.items) (sym w.all-is) (none_to_itself nodes from to c.loop-to.all.items (let self = w.if-to-from.false in omega arith) (inv.wired nodes before));
  }
]

pub returns : goal.returns
returns g c = λ nodes before. let inv = c.loop-to.invariant in let all = c.loop-to.all.items in let from = c.args.from in
    let end : c.loop-to.to ≡ nodes = (let count = before.count in let long = c.len-to-end.ensures in let whole = c.args.all.now.ok.0 in let past = c.loop-to-test.false in omega arith) in
    node_wired nodes from all (let count = before.count in let within = c.requires in omega arith) (subst (λ n. AreWired nodes from n all) end (inv.wired nodes before))

use Rattle.std.proofs.Common.{rules, ◌≡◌, ◌+◌, ◌∷◌, [], ◌++◌, take, sym, ap, subst, ◌∙◌}
use Rattle.std.proofs.lemmas.List.{take_more, take_all}
use Rattle.lc_cluster.specs.Copies.{CanBeSent, AreNext, AreAllNext}
use Rattle.lc_segments.specs.Each.{Each}
use Rattle.lc_log_side.specs.Published.{published}
use Rattle.lc_node.proofs.Backwards.{each_more}
use Rattle.lc_cluster.proofs.copying.copies_for.Goals as goal

pub loop-peer-preserved : goal.loop-peer-preserved
loop-peer-preserved g c = let peers = c.args.peers.now in let n = c.loop-peer.peer-index in let peer = c.peer-item.result in let lacks = c.in_ok-lacks.lacks in let inv = c.loop-peer.invariant in
    let all = published c.args.log.now in
    let more : take (n + 1) peers ≡ take n peers ++ peer ∷ [] = take_more peers n peer c.loop-peer-test.true ∙ ap (λ x. take n peers ++ x ∷ []) (sym c.peer-item.is) in record {
      room = search rules;
      fit = subst (λ l. Each (λ peer lacks. CanBeSent peer lacks.items) l c.push_reserved.new.self.items) (sym more) (subst (λ l. Each (λ peer lacks. CanBeSent peer lacks.items) (take n peers ++ peer ∷ []) l) (sym c.push_reserved.ensures.items)
          (each_more (λ peer lacks. CanBeSent peer lacks.items) (take n peers) c.loop-peer.copies.items peer lacks inv.fit (c.in_ok-lacks.ensures.few, c.in_ok-lacks.ensures.fit)));
      most = subst (λ l. Each (λ peer lacks. AreAllNext c.args.log.now.gone all peer lacks.items) l c.push_reserved.new.self.items) (sym more) (subst (λ l. Each (λ peer lacks. AreAllNext c.args.log.now.gone all peer lacks.items) (take n peers ++ peer ∷ []) l) (sym c.push_reserved.ensures.items)
          (each_more (λ peer lacks. AreAllNext c.args.log.now.gone all peer lacks.items) (take n peers) c.loop-peer.copies.items peer lacks inv.most c.in_ok-lacks.ensures.most));
      next = subst (λ l. Each (λ peer lacks. AreNext all peer lacks.items) l c.push_reserved.new.self.items) (sym more) (subst (λ l. Each (λ peer lacks. AreNext all peer lacks.items) (take n peers ++ peer ∷ []) l) (sym c.push_reserved.ensures.items)
          (each_more (λ peer lacks. AreNext all peer lacks.items) (take n peers) c.loop-peer.copies.items peer lacks inv.next c.in_ok-lacks.ensures.behind));
    }

pub returns-clause-fit : goal.returns-clause-fit
returns-clause-fit g c = subst (λ l. Each (λ peer lacks. CanBeSent peer lacks.items) l c.loop-peer.copies.items) (take_all c.loop-peer.peer-index c.args.peers.now c.loop-peer-test.false) c.loop-peer.invariant.fit

pub returns-clause-next : goal.returns-clause-next
returns-clause-next g c = subst (λ l. Each (λ peer lacks. AreNext (published c.args.log.now) peer lacks.items) l c.loop-peer.copies.items) (take_all c.loop-peer.peer-index c.args.peers.now c.loop-peer-test.false) c.loop-peer.invariant.next

pub returns-clause-most : goal.returns-clause-most
returns-clause-most g c = subst (λ l. Each (λ peer lacks. AreAllNext c.args.log.now.gone (published c.args.log.now) peer lacks.items) l c.loop-peer.copies.items) (take_all c.loop-peer.peer-index c.args.peers.now c.loop-peer-test.false) c.loop-peer.invariant.most

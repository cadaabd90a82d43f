use Rattle.std.proofs.Common.{ℕ, subst, ◌∙◌}
use Rattle.lc_lock.specs.Loans.{key_of}
use Rattle.lc_lock.specs.declared.ticket_lock.TicketLock.{TicketLock}
use Rattle.lc_node.specs.Parting.{PartsWithIn}
use Rattle.lc_segments.specs.Journey.{Journey}
use Rattle.lc_cluster.proofs.Called.{has_here, here_has, node_here}
use Rattle.lc_cluster.specs.Giving.{CutsOff, SendsToken}
use Rattle.lc_cluster.specs.declared.send_ends.SendEnds.{SendEnds}
use Rattle.lc_cluster.specs.declared.wiring.NodeEnds.{NodeEnds}
use Rattle.lc_cluster.proofs.cluster.Cluster.give.Goals as goal

pub returns-clause-gives : goal.returns-clause-gives
returns-clause-gives g c = λ has.
    let member = c.member-member.result.now in
    let here = has_here c.args.self.now c.args.from c.args.segment member c.member-member.ensures.member has in
    let line = c.new-line.result in
    let P : TicketLock (SendEnds (Journey g.row.D.Denot)) (NodeEnds (Journey g.row.D.Denot)) → ℕ → Type 0 = λ lock place.
    PartsWithIn g.D.Area member.node c.args.segment c.args.to (SendsToken (key_of lock).to.ends.items place) (CutsOff (key_of lock).to.ends.items place) c.part_with.result in
    record {
      member = member;
      at = c.member-member.ensures.member;
      number = c.member-member.ensures.number;
      parts = subst (P member.to) (c.new-line.ensures.place ∙ c.place_of.ensures.place) (subst (λ lock. P lock line.place) c.new-line.ensures.lock (c.part_with.ensures.parts here));
    }

pub returns-clause-no_segment : goal.returns-clause-no_segment
returns-clause-no_segment g c = λ none.
    let member = c.member-member.result.now in
    let cluster = c.args.self.now in
    let at = c.member-member.ensures.member in
    record {
      node = member.node;
      at = node_here cluster c.args.from c.args.segment member at;
      lacks = c.part_with.ensures.no_segment (λ here. none (here_has cluster c.args.from c.args.segment member at here));
    }

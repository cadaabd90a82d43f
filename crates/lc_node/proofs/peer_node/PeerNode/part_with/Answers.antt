use Rattle.std.proofs.Common.{rules, ◌≡◌, ap, subst, ◌∙◌}
use Rattle.std.specs.Prelude.{IsTrue, Ok}
use Rattle.lc_node.specs.Held.{HasSegment}
use Rattle.lc_node.specs.Logs.{IsLogOf}
use Rattle.lc_node.specs.Parting.{IsStableTo, LeavesOn}
use Rattle.lc_node.specs.declared.node.Node.{Node}
use Rattle.lc_segments.specs.SegView.{SegView}
use Rattle.lc_node.proofs.peer_node.PeerNode.part_with.Goals as goal

pub returns-clause-parts : goal.returns-clause-parts
returns-clause-parts g c = λ has.
    let log = c.lock-log.result.0 in
    let own : IsLogOf c.args.self.now log = search rules in
    let same : c.deref_mut.result.now ≡ c.lock-side.result.0 = c.deref_mut.ensures.value ∙ c.side.view_is in record {
      side = c.deref_mut.result.now;
      of_segment = ap (λ (s : SegView _). s.segment) same ∙ (c.lock-side.ensures.fits.0 ∙ c.lock_of-lock.ensures);
      log = log;
      own = own;
      new_side = c.part-parted.new.side;
      new_log = c.part-parted.new.log;
      parts = record {
        same_log = c.part-parted.ensures.log;
        halted = c.part-parted.ensures.halted;
        not_here = c.part-parted.ensures.not_here;
        unflushed = c.part-parted.ensures.unflushed;
        full = c.part-parted.ensures.full;
        given = subst (λ (node : Node g.row.D.Denot). c.part-parted.result ≡ Ok tt
            → IsStableTo log c.part-parted.new.log × LeavesOn g.D.Area node.number (g.L.TokenLine.sent c.args.line.now) c.deref_mut.result.now c.part-parted.new.side)
            c.self.view_is c.part-parted.ensures.given;
        refused = c.part-parted.ensures.err;
        same = c.part-parted.ensures.same;
      };
    }

pub returns-clause-no_segment : goal.returns-clause-no_segment
returns-clause-no_segment g c = λ none.
    let has : IsTrue c.has.result = search rules in
    absurd (none (subst (λ (node : Node g.row.D.Denot). HasSegment node c.args.segment) c.self.view_is (c.has.ensures.0 has)))

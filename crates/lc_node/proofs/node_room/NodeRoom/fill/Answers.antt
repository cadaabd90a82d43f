use Rattle.std.proofs.Common.{subst, sym}
use Rattle.std.specs.Global.{Vec}
use Rattle.lc_node.specs.Rooms.{AreFilled}
use Rattle.lc_node.specs.declared.fresh_segment.FreshSegment.{FreshSegment}
use Rattle.lc_node.proofs.node_room.NodeRoom.fill.Goals as goal

pub returns-clause-filled : goal.returns-clause-filled
returns-clause-filled g c =
    subst (λ (made : Vec (FreshSegment g.row.D.Denot)). AreFilled c.args.share.number c.args.share.nodes c.args.self.segments.items c.args.pages.now made.items)
    (sym c.fill.ensures.segments) c.fill_all-segments.ensures.filled

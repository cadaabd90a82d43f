use Rattle.std.proofs.Common.{◌≡◌, List, length, ap, ◌∙◌, arith}
use Rattle.std.proofs.lemmas.List.{length-map}
use Rattle.lc_cluster.specs.LeftBy.{node_in}
use Rattle.lc_node.specs.Refusals.{StopsParts}
use Rattle.lc_node.specs.declared.node.Node.{Node}
use Rattle.lc_node.proofs.LeftParts.{all_kept}
use Rattle.lc_cluster.proofs.LeftParts.{all_one_key, all_segments, all_wired, own_seats}
use Rattle.lc_log_side.proofs.Refused.{handed_on}
use Rattle.lc_cluster.proofs.Refused.{of_nodes}
use Rattle.lc_cluster.proofs.cluster.Cluster.into_parts.Goals as goal

pub take_nodes-requires-clause-seats : goal.take_nodes-requires-clause-seats
take_nodes-requires-clause-seats g c = own_seats c.args.self c.in_ok-nodes.nodes.items c.args.seats.items c.in_ok-nodes.ensures.nodes c.requires.own

pub take_nodes-requires-clause-segments : goal.take_nodes-requires-clause-segments
take_nodes-requires-clause-segments g c = all_segments c.args.self c.in_ok-nodes.nodes.items c.in_ok-nodes.ensures.nodes

pub take_ends-requires : goal.take_ends-requires
take_ends-requires g c = record {
  wired = all_wired c.args.self c.in_ok-nodes.posts c.in_ok-nodes.ensures.posts;
  one_key = all_one_key c.args.self c.in_ok-nodes.posts.items c.in_ok-nodes.ensures.posts;
}

pub returns-clause-kept : goal.returns-clause-kept
returns-clause-kept g c =
    let self = c.args.self in
    let count : length c.in_ok-nodes.nodes.items ≡ length self.members.items =
    ap (λ (l : List (Node g.row.D.Denot)). length l) c.in_ok-nodes.ensures.nodes ∙ length-map self.members.items node_in in
    all_kept g.D.Area _ (omega (arith, c.in_ok-nodes-2.ensures.count, count, self.members.ok.0, self.all_nodes)) c.in_ok-segments.ensures.count c.in_ok-nodes-2.ensures.each c.in_ok-segments.ensures.pages

pub returns-in_err-nodes-2-clause-refused : goal.returns-in_err-nodes-2-clause-refused
returns-in_err-nodes-2-clause-refused g c =
    handed_on c.from_residual-in_err-nodes-2.result c.in_err-nodes-2.field-0.0 (StopsParts c.args.self.geometry) c.from_residual-in_err-nodes-2.ensures.1
    (of_nodes c.args.self c.in_ok-nodes.nodes.items c.in_err-nodes-2.field-0.0 c.in_ok-nodes.ensures.nodes c.in_err-nodes-2.ensures.refused)

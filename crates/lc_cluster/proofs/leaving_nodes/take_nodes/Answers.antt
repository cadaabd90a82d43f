use Rattle.std.proofs.Common.{◌≡◌, ◌⊎◌, ◌<◌, Some, length, inr, subst, sym, ◌∙◌, arith}
use Rattle.std.specs.Global.{Vec}
use Rattle.std.specs.Prelude.{Any, slice_get, vec_len}
use Rattle.std.proofs.lemmas.Option.{get_or_from_slice_get, same_Some as some_same}
use Rattle.lc_rest.specs.declared.node_part.NodePart.{NodePart}
use Rattle.lc_stage.specs.declared.seats.CommitSeat.{CommitSeat}
use Rattle.lc_record.proofs.ListLemmas.{All-slice_get as at_each, left_first as next_is, left_more}
use Rattle.lc_log_side.specs.LeftBy.{AreReceived}
use Rattle.lc_node.specs.LeftBy.{IsLeftNode}
use Rattle.lc_node.specs.Refusals.{StopsNode}
use Rattle.lc_node.specs.declared.node.Node.{Node}
use Rattle.lc_segments.specs.declared.node_fault.NodeFault.TheVariants.{NoMemory}
use Rattle.lc_node.proofs.EachPlace.{each_more}
use Rattle.lc_node.proofs.Joined.{all_more}
use Rattle.lc_log_side.proofs.Refused.{handed_on}
use Rattle.lc_cluster.proofs.leaving_nodes.take_nodes.Goals as goal

pub into_part-requires-clause-seats : goal.into_part-requires-clause-seats
into_part-requires-clause-seats g c =
    let inv = c.loop.invariant in
    let n = c.loop.counter in
    let own = c.requires.seats in
    let some : n < length c.args.nodes.items = omega (arith, c.loop-test.true, c.len-end.ensures, c.args.nodes.ok.0) in
    let some_seats : n < length c.args.seats.items = omega (arith, some, own.count) in
    let next = next_is c.args.nodes.items c.loop.nodes.items n c.remove-node.result inv.nodes_left some c.remove-node.ensures.value in
    let mine = next_is c.args.seats.items c.loop.seats.items n c.remove-mine.result inv.seats_left some_seats c.remove-mine.ensures.value in
    own.own n c.remove-node.result c.remove-mine.result next mine

pub into_part-requires-clause-segments : goal.into_part-requires-clause-segments
into_part-requires-clause-segments g c =
    let inv = c.loop.invariant in
    let n = c.loop.counter in
    let some : n < length c.args.nodes.items = omega (arith, c.loop-test.true, c.len-end.ensures, c.args.nodes.ok.0) in
    let next = next_is c.args.nodes.items c.loop.nodes.items n c.remove-node.result inv.nodes_left some c.remove-node.ensures.value in
    at_each (λ (node : Node g.row.D.Denot). vec_len node.segments ≡ c.args.geometry.now.segments) c.args.nodes.items n c.remove-node.result c.requires.segments next

pub loop-preserved : goal.loop-preserved
loop-preserved g c =
    let inv = c.loop.invariant in
    let n = c.loop.counter in
    let seats = c.args.seats.items in
    let part = c.in_ok-into_part.field-0 in
    let its = c.in_ok-into_part.ensures in
    let some : n < length c.args.nodes.items = omega (arith, c.loop-test.true, c.len-end.ensures, c.args.nodes.ok.0) in
    let some_seats : n < length seats = omega (arith, some, c.requires.seats.count) in
    let got : slice_get seats n ≡ Some c.remove-mine.result = next_is seats c.loop.seats.items n c.remove-mine.result inv.seats_left some_seats c.remove-mine.ensures.value in
    let count : length c.loop.parts.items ≡ n = omega (arith, inv.count, c.loop.parts.ok.0) in
    record {
      nodes_left = left_more c.args.nodes.items c.loop.nodes.items c.remove-node.new.self.items n inv.nodes_left c.remove-node.ensures.items;
      seats_left = left_more seats c.loop.seats.items c.remove-mine.new.self.items n inv.seats_left c.remove-mine.ensures.items;
      count = omega (arith, c.push_reserved.ensures.len, inv.count);
      fit = omega (arith, c.push_reserved.ensures.capacity, inv.fit);
      each = all_more (IsLeftNode g.D.Area c.args.geometry.now) c.push_reserved.new.self.items c.loop.parts.items part c.push_reserved.ensures.items inv.each its.part;
      received = λ place one mine there here.
          each_more (λ k (p : NodePart g.row.D.Denot g.D.Area). (m : Vec CommitSeat) → slice_get seats k ≡ Some m → AreReceived p.round p.stable.items p.known m.items)
          c.push_reserved.new.self.items c.loop.parts.items part n c.push_reserved.ensures.items count
          (λ k p had m has. inv.received k p m had has)
          (λ m has. subst (λ (v : Vec CommitSeat). AreReceived part.round part.stable.items part.known v.items) (some_same _ _ (sym got ∙ has)) its.received)
          place one there mine here;
      settled = its.settled;
    }

pub returns-in_err-into_part-clause-refused : goal.returns-in_err-into_part-clause-refused
returns-in_err-into_part-clause-refused g c =
    let inv = c.loop.invariant in
    let n = c.loop.counter in
    let node = c.remove-node.result in
    let all = c.args.nodes.items in
    let some : n < length all = omega (arith, c.loop-test.true, c.len-end.ensures, c.args.nodes.ok.0) in
    let next = next_is all c.loop.nodes.items n node inv.nodes_left some c.remove-node.ensures.value in
    handed_on c.from_residual-in_err-into_part.result c.in_err-into_part.field-0.0 (λ fault. (fault ≡ NoMemory) ⊎ Any (λ (one : Node g.row.D.Denot). StopsNode one.number fault) all) c.from_residual-in_err-into_part.ensures.1
    (inr (n, node, some, get_or_from_slice_get all n node node next, c.in_err-into_part.ensures.refused))

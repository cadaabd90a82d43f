use Rattle.std.proofs.Common.{◌≡◌, ◌<◌, length, refl, subst, sym, ◌∙◌, arith}
use Rattle.lc_record.specs.Geometry.{HasNumbers}
use Rattle.lc_record.specs.declared.geometry.Geometry.{Geometry}
use Rattle.lc_node.specs.FreshNode.{IsFreshNode}
use Rattle.lc_node.specs.OpenedNode.{IsOpened}
use Rattle.lc_node.proofs.EachPlace.{first_is}
use Rattle.lc_node.proofs.FreshUp.{is_opened}
use Rattle.lc_node.proofs.node.Node.open.Goals as goal

pub invariant_of-node : goal.invariant_of-node
invariant_of-node g c =
    let node = c.come_up-node.result.node in
    let one = c.with_one_node-node.ensures in
    let all = c.in_ok-nodes.ensures.fresh in
    let some : 0 < length c.in_ok-nodes.nodes.items = omega (arith, all.count) in
    let its = all.each 0 c.remove-fresh.result (first_is c.in_ok-nodes.nodes.items c.remove-fresh.result some c.remove-fresh.ensures.value) in
    let first : node.number ≡ 0 = c.come_up-node.ensures.parts.number ∙ its.own_number in
    record {
      numbered = node.numbered;
      alone = λ yes. (first, one.nodes_are);
      one_stage = node.one_stage;
      in_order = node.in_order;
      few = node.few;
      one_room = node.one_room ∙ sym one.words_are;
      all_segments = node.all_segments ∙ sym one.segments_are;
    }

pub returns : goal.returns
returns g c =
    let all = c.in_ok-nodes.ensures.fresh in
    let some : 0 < length c.in_ok-nodes.nodes.items = omega (arith, all.count) in
    let its : IsFreshNode c.args.recovered 1 0 c.remove-fresh.result =
    all.each 0 c.remove-fresh.result (first_is c.in_ok-nodes.nodes.items c.remove-fresh.result some c.remove-fresh.ensures.value) in
    let up = c.come_up-node.ensures in
    let opened : IsOpened c.args.recovered c.come_up-node.result = is_opened c.args.recovered 1 0 c.remove-fresh.result c.come_up-node.result its up in
    let one = c.with_one_node-node.ensures in
    let of_one : Geometry → Type 0 = λ geometry. HasNumbers c.with_one_node-node.result 1 geometry.threads geometry.segments geometry.pages geometry.words in
    record {
      seat = (opened.0, opened.1);
      number = up.parts.number ∙ its.own_number;
      room = opened.2;
      segments = opened.3;
      geometry = subst of_one opened.5 one;
      alone = refl;
      comes_up = (
        c.remove-fresh.result,
        its,
        record {
          parts = record { number = up.parts.number; stage = up.parts.stage; own_seat = up.parts.own_seat; of_log = up.parts.of_log; count = up.parts.count };
          geometry = subst of_one up.geometry one;
          alone = refl;
        },
      );
      back = tt;
    }

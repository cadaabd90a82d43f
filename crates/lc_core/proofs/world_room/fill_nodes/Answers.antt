use Rattle.std.proofs.Common.{◌≡◌, ◌≤◌, Some, sym, ◌∙◌, arith}
use Rattle.std.specs.Prelude.{slice_get, slice_index_or}
use Rattle.std.proofs.lemmas.Option.{slice_get-get_or, slice_get_within}
use Rattle.lc_record.proofs.ListLemmas.{set_behind as behind_set}
use Rattle.lc_events.specs.Blank.{IsFilledNode}
use Rattle.lc_desk.proofs.Furnishing.{front_set}
use Rattle.lc_core.proofs.world_room.fill_nodes.Goals as goal

pub fill-requires : goal.fill-requires
fill-requires g c =
    let place = c.loop-node.node-index in
    let nodes = c.loop-node.nodes in
    let node = slice_index_or nodes place c.node-item.result in
    let same : place ≤ place = omega arith in
    let there : slice_get nodes place ≡ Some node = slice_get-get_or nodes place c.node-item.result (omega (arith, c.loop-node-test.true, c.loop-node.auto.nodes)) in
    let blank = c.requires place node (sym (c.loop-node.invariant.behind place same) ∙ there) in
    record { desk = blank.desk }

pub loop-node-preserved : goal.loop-node-preserved
loop-node-preserved g c =
    let r = c.args.recovered.now in
    let place = c.loop-node.node-index in
    let nodes = c.loop-node.nodes in
    let node = slice_index_or nodes place c.node-item.result in
    let same : place ≤ place = omega arith in
    let there : slice_get nodes place ≡ Some node = slice_get-get_or nodes place c.node-item.result (omega (arith, c.loop-node-test.true, c.loop-node.auto.nodes)) in
    let blank = c.requires place node (sym (c.loop-node.invariant.behind place same) ∙ there) in
    record {
      front = front_set (λ n x. IsFilledNode g.D.Area r n x) nodes place c.fill.new.self c.loop-node.invariant.front (c.fill.ensures.fresh place blank);
      behind = behind_set c.args.nodes.now nodes place c.fill.new.self c.loop-node.invariant.behind;
    }

pub returns : goal.returns
returns g c = λ n node got.
    let within = slice_get_within c.loop-node.nodes n node got in
    c.loop-node.invariant.front n node (omega (arith, within, c.loop-node.auto.nodes, c.loop-node-test.false)) got

use Rattle.std.proofs.Common.{◌≡◌, ◌+◌, ◌*◌, ◌<◌, true, [], drop, length, Some, sym, ap, ◌∙◌, arith}
use Rattle.std.specs.Prelude.{slice_get, slice_index_or}
use Rattle.std.proofs.lemmas.List.{drop-drop}
use Rattle.std.proofs.lemmas.Option.{slice_get-get_or, slice_get_within}
use Rattle.lc_recover.specs.Recovered.{AreFinished}
use Rattle.lc_events.specs.Blank.{IsFilledNode}
use Rattle.lc_journal.specs.Log.{Stands, area_of, is_idle}
use Rattle.lc_events.specs.declared.node_state.NodeState.{NodeState}
use Rattle.lc_desk.proofs.Furnishing.{each_set, front_set}
use Rattle.lc_core.proofs.Opening.{log_area, left_some, left_is, log_closed, log_clean}
use Rattle.lc_core.proofs.world_room.open_logs.Goals as goal

pub remove-area-requires : goal.remove-area-requires
remove-area-requires g c =
    let r = c.args.recovered in
    let few : c.loop-node.node-index < r.geometry.nodes = omega (arith, c.loop-node-test.true, c.requires.count) in
    let at = log_area g.D.Area r.geometry r.areas c.loop-node.node-index c.requires.lengths few in
    let some = left_some g.D.Area r.areas c.loop-node.areas.items c.loop-node.node-index at.0 c.loop-node.invariant.areas at.1 in
    omega (arith, some, c.loop-node.areas.ok.0)

pub open-requires-clause-len : goal.open-requires-clause-len
open-requires-clause-len g c =
    let r = c.args.recovered in
    let place = c.loop-node.node-index in
    let nodes = c.loop-node.nodes in
    let node = slice_index_or nodes place c.node-item.result in
    let there : slice_get nodes place ≡ Some node = slice_get-get_or nodes place c.node-item.result (omega (arith, c.loop-node-test.true, c.loop-node.auto.nodes)) in
    let few : place < r.geometry.nodes = omega (arith, c.loop-node-test.true, c.requires.count) in
    let at = log_area g.D.Area r.geometry r.areas place c.requires.lengths few in
    let same = left_is g.D.Area r.areas c.loop-node.areas.items place at.0 c.remove-area.result c.loop-node.invariant.areas at.1 c.remove-area.ensures.value in
    ap (λ d. length (g.D.Area.now d)) same ∙ at.2 ∙ ap (λ w. 8 * (w + 1)) (sym (c.loop-node.invariant.filled place node there).journal.room)

pub open-requires-clause-dropped : goal.open-requires-clause-dropped
open-requires-clause-dropped g c =
    let place = c.loop-node.node-index in
    let nodes = c.loop-node.nodes in
    let node = slice_index_or nodes place c.node-item.result in
    let there : slice_get nodes place ≡ Some node = slice_get-get_or nodes place c.node-item.result (omega (arith, c.loop-node-test.true, c.loop-node.auto.nodes)) in
    (c.loop-node.invariant.filled place node there).journal.dropped

pub open-requires-clause-acked : goal.open-requires-clause-acked
open-requires-clause-acked g c =
    let place = c.loop-node.node-index in
    let nodes = c.loop-node.nodes in
    let node = slice_index_or nodes place c.node-item.result in
    let there : slice_get nodes place ≡ Some node = slice_get-get_or nodes place c.node-item.result (omega (arith, c.loop-node-test.true, c.loop-node.auto.nodes)) in
    (c.loop-node.invariant.filled place node there).journal.acked

pub loop-node-preserved : goal.loop-node-preserved
loop-node-preserved g c =
    let r = c.args.recovered in
    let place = c.loop-node.node-index in
    let nodes = c.loop-node.nodes in
    let node = slice_index_or nodes place c.node-item.result in
    let there : slice_get nodes place ≡ Some node = slice_get-get_or nodes place c.node-item.result (omega (arith, c.loop-node-test.true, c.loop-node.auto.nodes)) in
    let few : place < r.geometry.nodes = omega (arith, c.loop-node-test.true, c.requires.count) in
    let at = log_area g.D.Area r.geometry r.areas place c.requires.lengths few in
    let same = left_is g.D.Area r.areas c.loop-node.areas.items place at.0 c.remove-area.result c.loop-node.invariant.areas at.1 c.remove-area.ensures.value in
    let new : NodeState g.row.D.Denot g.D.Area = record { desk = node.desk; journal = c.open.new.self; known = node.known } in
    let filled = c.loop-node.invariant.filled place node there in
    record {
      room = omega (arith, c.remove-area.ensures.capacity, c.loop-node.invariant.room);
      areas = c.remove-area.ensures.items ∙ ap (drop 1) c.loop-node.invariant.areas ∙ drop-drop 1 place r.areas;
      filled = each_set (λ n x. IsFilledNode g.D.Area r n x) nodes place new c.loop-node.invariant.filled (record {
        desk = filled.desk;
        slots = filled.slots;
        journal = c.open.ensures.blank r.geometry filled.journal;
        known = filled.known;
      });
      log_areas = front_set (λ n x. area_of g.D.Area x.journal.log ≡ slice_get r.areas n) nodes place new c.loop-node.invariant.log_areas
          (c.open.ensures.area ∙ ap (λ d. Some d) same ∙ sym at.1);
      logs = front_set (λ n x. AreFinished g.D.Area r → Stands g.D.Area x.journal.log 0 [] [] × (is_idle g.D.Area x.journal.log ≡ true)) nodes place new c.loop-node.invariant.logs
          (λ finished. (
            c.open.ensures.log (λ honest. log_closed g.D.Area r place at.0 c.remove-area.result finished few at.1 same honest)
                (λ honest. log_clean g.D.Area r place at.0 c.remove-area.result finished at.1 same honest),
            c.open.ensures.works,
          ));
    }

pub returns-clause-log_areas : goal.returns-clause-log_areas
returns-clause-log_areas g c = λ n node got.
    let within = slice_get_within c.loop-node.nodes n node got in
    c.loop-node.invariant.log_areas n node (omega (arith, within, c.loop-node.auto.nodes, c.loop-node-test.false)) got

pub returns-clause-logs : goal.returns-clause-logs
returns-clause-logs g c = λ finished n node got.
    let within = slice_get_within c.loop-node.nodes n node got in
    c.loop-node.invariant.logs n node (omega (arith, within, c.loop-node.auto.nodes, c.loop-node-test.false)) got finished

pub returns-clause-bytes : goal.returns-clause-bytes
returns-clause-bytes g c = λ k area is. g.met.D.Area.reads_bytes area

pub returns-clause-areas : goal.returns-clause-areas
returns-clause-areas g c =
    let all : c.loop-node.node-index ≡ c.args.recovered.geometry.nodes = omega (arith, c.loop-node-test.false, c.loop-node.auto.node-index-end, c.requires.count) in
    c.loop-node.invariant.areas ∙ ap (λ n. drop n c.args.recovered.areas) all

use Rattle.std.proofs.Common.{◌<◌, ◌≤◌, length, refl, subst, arith}
use Rattle.std.proofs.lemmas.List.{take_all}
use Rattle.lc_record.proofs.ListLemmas.{left_first as next_left, left_some as some_left_over, left_more as rest_removed}
use Rattle.lc_reading.specs.ReadNodes.{AreReadNodes}
use Rattle.lc_reading.proofs.NodeLogs.{none_read, one_more_read}
use Rattle.lc_reading.proofs.Removed.{next_removed}
use Rattle.lc_reading.proofs.read_nodes.ReadNodes.read.Goals as goal

pub loop-init : goal.loop-init
loop-init g c = record {
  rest = refl;
  read = λ geometry each. none_read g.D.Area geometry.words _ c.new.ensures.items c.new-2.ensures.items c.new-3.ensures.items c.new-4.ensures.items;
}

pub remove-requires : goal.remove-requires
remove-requires g c =
    let all = c.args.parts.items in
    let few : c.loop.counter < length all = omega (arith, c.loop-test.true, c.len-end.ensures, c.args.parts.ok.0) in
    let some = some_left_over all c.loop.parts.items c.loop.counter c.loop.invariant.rest few in
    omega (arith, some, c.loop.parts.ok.0)

pub loop-preserved : goal.loop-preserved
loop-preserved g c =
    let all = c.args.parts.items in
    let n = c.loop.counter in
    let h = c.loop.invariant in
    let few : n < length all = omega (arith, c.loop-test.true, c.len-end.ensures, c.args.parts.ok.0) in
    let there = next_left all c.loop.parts.items n c.remove.result h.rest few c.remove.ensures.value in
    record {
      rest = rest_removed all c.loop.parts.items c.remove.new.self.items n h.rest c.remove.ensures.items;
      read = λ geometry each.
          one_more_read g.D.Area geometry.words _ _ c.remove.result c.loop.nodes c.push.new.self c.in_ok-node.node
          (next_removed all c.loop.parts.items n c.remove.result h.rest few c.remove.ensures.value) (h.read geometry each) c.in_ok-push.ensures
          (c.in_ok-node.ensures geometry (each n c.remove.result there));
    }

pub returns : goal.returns
returns g c = λ geometry each.
    (let all = c.args.parts.items in
    let done : length all ≤ c.loop.counter = omega (arith, c.loop-test.false, c.len-end.ensures, c.args.parts.ok.0) in
    subst (λ l. AreReadNodes g.D.Area geometry.words l c.loop.nodes) (take_all c.loop.counter all done) (c.loop.invariant.read geometry each))

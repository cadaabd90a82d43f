use Rattle.std.proofs.Common.{◌≡◌, length, ◌∷◌, ◌++◌, [], arith}
use Rattle.lc_record.proofs.ListLemmas.{each_push as each_pushed}
use Rattle.lc_events.specs.Blank.{IsBlankNode}
use Rattle.lc_desk.proofs.Furnishing.{each_same}
use Rattle.lc_core.proofs.world_room.blank_nodes.Goals as goal

pub loop-number-preserved : goal.loop-number-preserved
loop-number-preserved g c =
    let geometry = c.args.geometry.now in
    let old = c.loop-number.nodes.items in
    let new = c.in_ok-node.node in
    let len : length old ≡ c.loop-number.number = omega (arith, c.loop-number.invariant.count, c.loop-number.nodes.ok.0) in
    record {
      count = omega (arith, c.in_ok-push.ensures.len, c.loop-number.invariant.count);
      blank = each_same (λ n x. IsBlankNode g.D.Area geometry n x) (old ++ new ∷ []) _ c.in_ok-push.ensures.items
          (each_pushed (λ n x. IsBlankNode g.D.Area geometry n x) old new c.loop-number.invariant.blank (rw len c.in_ok-node.ensures));
    }

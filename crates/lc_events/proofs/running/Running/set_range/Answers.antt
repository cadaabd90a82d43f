use Rattle.std.proofs.Common.{refl, arith}
use Rattle.lc_model.specs.declared.event.Event.TheVariants.{SetRange}
use Rattle.lc_events.proofs.AtOnce.{node_within}
use Rattle.lc_events.proofs.Layering.{node_tries, refused_tries}
use Rattle.lc_events.proofs.NodeSteps.{of_there, whole_there}
use Rattle.lc_events.proofs.running.Running.set_range.Goals as goal

pub returns-in-Some : goal.returns-in-Some
returns-in-Some g c = refused_tries g.D.Area c.args.self.now (SetRange c.args.node c.args.thread c.args.segment c.args.offset c.args.len) c.refusal.result (c.refusal.ensures (SetRange c.args.node c.args.thread c.args.segment c.args.offset c.args.len) c.knows_place-known.ensures refl) c.in-Some.refusal c.in-Some.is refl

pub set_range-requires : goal.set_range-requires
set_range-requires g c =
    let first = c.refusal.ensures (SetRange c.args.node c.args.thread c.args.segment c.args.offset c.args.len) c.knows_place-known.ensures refl in
    record { seat = (of_there g.D.Area c.args.self.now (SetRange c.args.node c.args.thread c.args.segment c.args.offset c.args.len) refl (first.known c.in_default.is) (first.running c.in_default.is) c.args.node refl c.index_mut.result.now c.index_mut.ensures.value).1 }

pub invariant_of-self : goal.invariant_of-self
invariant_of-self g c =
    let w = c.args.self.now in
    let first = c.refusal.ensures (SetRange c.args.node c.args.thread c.args.segment c.args.offset c.args.len) c.knows_place-known.ensures refl in
    record {
      few = w.few;
      all_nodes = w.all_nodes;
      all_places = w.all_places;
      named = w.named;
      whole = whole_there g.D.Area w (SetRange c.args.node c.args.thread c.args.segment c.args.offset c.args.len) refl (first.known c.in_default.is) (first.running c.in_default.is) c.args.node refl c.index_mut.result.now c.index_mut.ensures.value c.set_range.result c.set_range.new.self
          (c.set_range.ensures c.args.node);
    }

pub returns : goal.returns
returns g c =
    let first = c.refusal.ensures (SetRange c.args.node c.args.thread c.args.segment c.args.offset c.args.len) c.knows_place-known.ensures refl in
    node_tries g.D.Area c.args.self.now (SetRange c.args.node c.args.thread c.args.segment c.args.offset c.args.len) refl c.refusal.result first c.in_default.is c.args.node refl c.index_mut.result.now c.index_mut.ensures.value c.set_range.result c.set_range.new.self
    (c.set_range.ensures c.args.node) _ refl refl refl

pub index_mut-requires : goal.index_mut-requires
index_mut-requires g c =
    let w = c.args.self.now in
    omega (arith, w.all_nodes, w.nodes.ok.0, node_within g.D.Area w (SetRange c.args.node c.args.thread c.args.segment c.args.offset c.args.len) c.refusal.result (c.refusal.ensures (SetRange c.args.node c.args.thread c.args.segment c.args.offset c.args.len) c.knows_place-known.ensures refl) c.in_default.is c.args.node refl)

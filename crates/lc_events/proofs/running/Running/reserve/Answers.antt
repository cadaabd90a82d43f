use Rattle.std.proofs.Common.{refl, arith}
use Rattle.lc_model.specs.declared.event.Event.TheVariants.{Reserve}
use Rattle.lc_events.proofs.AtOnce.{node_within}
use Rattle.lc_events.proofs.Layering.{node_tries, refused_tries}
use Rattle.lc_events.proofs.NodeSteps.{of_there, placed_steps, whole_there}
use Rattle.lc_events.proofs.running.Running.reserve.Goals as goal

pub returns-in-Some : goal.returns-in-Some
returns-in-Some g c = refused_tries g.D.Area c.args.self.now (Reserve c.args.node c.args.thread) c.refusal.result (c.refusal.ensures (Reserve c.args.node c.args.thread) c.is_seat.ensures.known refl) c.in-Some.refusal c.in-Some.is refl

pub reserve-requires-clause-seat : goal.reserve-requires-clause-seat
reserve-requires-clause-seat g c =
    let first = c.refusal.ensures (Reserve c.args.node c.args.thread) c.is_seat.ensures.known refl in
    (of_there g.D.Area c.args.self.now (Reserve c.args.node c.args.thread) refl (first.known c.in_default.is) (first.running c.in_default.is) c.args.node refl c.index_mut.result.now c.index_mut.ensures.value).1

pub invariant_of-self : goal.invariant_of-self
invariant_of-self g c =
    let w = c.args.self.now in
    let first = c.refusal.ensures (Reserve c.args.node c.args.thread) c.is_seat.ensures.known refl in
    record {
      few = w.few;
      all_nodes = w.all_nodes;
      all_places = w.all_places;
      named = w.named;
      whole = whole_there g.D.Area w (Reserve c.args.node c.args.thread) refl (first.known c.in_default.is) (first.running c.in_default.is) c.args.node refl c.index_mut.result.now c.index_mut.ensures.value c.reserve.result c.reserve.new.self
          (placed_steps g.D.Area c.args.node c.args.thread c.index_mut.result.now c.reserve.result c.reserve.new.self c.reserve.ensures.follows c.reserve.ensures.memory c.reserve.ensures.err c.reserve.ensures.whole c.reserve.ensures.names c.reserve.ensures.log);
    }

pub returns : goal.returns
returns g c =
    let first = c.refusal.ensures (Reserve c.args.node c.args.thread) c.is_seat.ensures.known refl in
    node_tries g.D.Area c.args.self.now (Reserve c.args.node c.args.thread) refl c.refusal.result first c.in_default.is c.args.node refl c.index_mut.result.now c.index_mut.ensures.value c.reserve.result c.reserve.new.self
    (placed_steps g.D.Area c.args.node c.args.thread c.index_mut.result.now c.reserve.result c.reserve.new.self c.reserve.ensures.follows c.reserve.ensures.memory c.reserve.ensures.err c.reserve.ensures.whole c.reserve.ensures.names c.reserve.ensures.log) _ refl refl refl

pub index_mut-requires : goal.index_mut-requires
index_mut-requires g c =
    let w = c.args.self.now in
    omega (arith, w.all_nodes, w.nodes.ok.0, node_within g.D.Area w (Reserve c.args.node c.args.thread) c.refusal.result (c.refusal.ensures (Reserve c.args.node c.args.thread) c.is_seat.ensures.known refl) c.in_default.is c.args.node refl)

pub reserve-requires-clause-node : goal.reserve-requires-clause-node
reserve-requires-clause-node g c =
    let w = c.args.self.now in
    omega (arith, w.few, node_within g.D.Area w (Reserve c.args.node c.args.thread) c.refusal.result (c.refusal.ensures (Reserve c.args.node c.args.thread) c.is_seat.ensures.known refl) c.in_default.is c.args.node refl)

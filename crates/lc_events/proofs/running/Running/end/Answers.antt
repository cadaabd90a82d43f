use Rattle.std.proofs.Common.{refl, inl, arith}
use Rattle.lc_model.specs.declared.event.Event.TheVariants.{Close, Reserve}
use Rattle.lc_events.proofs.AtOnce.{node_within, stands}
use Rattle.lc_events.proofs.EndCalls.{end_room, node_ends}
use Rattle.lc_events.proofs.Layering.{refused_tries}
use Rattle.lc_events.proofs.NodeSteps.{of_there}
use Rattle.lc_events.proofs.Onward.{whole_set}
use Rattle.lc_events.proofs.running.Running.end.Goals as goal

pub returns-in-Some : goal.returns-in-Some
returns-in-Some g c = inl (record {
  none = tt;
  places = refused_tries g.D.Area c.args.self.now (Reserve c.args.node c.args.thread) c.refusal.result (c.refusal.ensures (Reserve c.args.node c.args.thread) c.is_seat.ensures.known refl) c.in-Some.refusal c.in-Some.is refl;
})

pub end-requires-clause-seat : goal.end-requires-clause-seat
end-requires-clause-seat g c =
    let first = c.refusal.ensures (Close c.args.node c.args.thread) c.is_seat.ensures.known refl in
    (of_there g.D.Area c.args.self.now (Close c.args.node c.args.thread) refl (first.known c.in_default.is) (first.running c.in_default.is) c.args.node refl c.index_mut.result.now c.index_mut.ensures.value).1

pub invariant_of-self : goal.invariant_of-self
invariant_of-self g c =
    let w = c.args.self.now in
    let node = c.index_mut.result.now in
    let first = c.refusal.ensures (Close c.args.node c.args.thread) c.is_seat.ensures.known refl in
    let at = stands g.D.Area w (Close c.args.node c.args.thread) (first.known c.in_default.is) c.args.node refl node c.index_mut.ensures.value in
    let room = end_room g.D.Area c.args.node c.args.thread node c.end.result c.end.new.self c.end.ensures in
    record {
      few = w.few;
      all_nodes = w.all_nodes;
      all_places = w.all_places;
      named = w.named;
      whole = whole_set g.D.Area w.geometry w.nodes.items c.args.node node c.end.new.self at w.whole room.seats room.slots;
    }

pub returns : goal.returns
returns g c =
    let w = c.args.self.now in
    let first = c.refusal.ensures (Close c.args.node c.args.thread) c.is_seat.ensures.known refl in
    node_ends g.D.Area w c.args.node c.args.thread c.refusal.result first c.in_default.is c.index_mut.result.now c.index_mut.ensures.value
    c.end.result c.end.new.self c.end.ensures _ refl refl refl

pub index_mut-requires : goal.index_mut-requires
index_mut-requires g c =
    let w = c.args.self.now in
    omega (arith, w.all_nodes, w.nodes.ok.0, node_within g.D.Area w (Close c.args.node c.args.thread) c.refusal.result (c.refusal.ensures (Close c.args.node c.args.thread) c.is_seat.ensures.known refl) c.in_default.is c.args.node refl)

pub end-requires-clause-node : goal.end-requires-clause-node
end-requires-clause-node g c =
    let w = c.args.self.now in
    omega (arith, w.few, node_within g.D.Area w (Close c.args.node c.args.thread) c.refusal.result (c.refusal.ensures (Close c.args.node c.args.thread) c.is_seat.ensures.known refl) c.in_default.is c.args.node refl)

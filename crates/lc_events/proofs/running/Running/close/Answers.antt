use Rattle.std.proofs.Common.{refl, arith}
use Rattle.std.specs.Prelude.{Ok, Result}
use Rattle.std.specs.declared.alloc.AllocError.{AllocError}
use Rattle.lc_model.specs.declared.event.Event.TheVariants.{Close}
use Rattle.lc_model.specs.declared.reply.Reply.{Reply}
use Rattle.lc_events.proofs.AtOnce.{node_within}
use Rattle.lc_events.proofs.Layering.{node_tries, refused_running}
use Rattle.lc_events.proofs.NodeSteps.{closed_steps, of_there, whole_there}
use Rattle.lc_events.proofs.running.Running.close.Goals as goal

pub returns-in-Some : goal.returns-in-Some
returns-in-Some g c = refused_running g.D.Area c.args.self.now (Close c.args.node c.args.thread) c.refusal.result (c.refusal.ensures (Close c.args.node c.args.thread) c.is_seat.ensures.known refl) c.in-Some.refusal c.in-Some.is refl

pub close-requires : goal.close-requires
close-requires g c =
    let first = c.refusal.ensures (Close c.args.node c.args.thread) c.is_seat.ensures.known refl in
    record { seat = (of_there g.D.Area c.args.self.now (Close c.args.node c.args.thread) refl (first.known c.in_default.is) (first.running c.in_default.is) c.args.node refl c.index_mut.result.now c.index_mut.ensures.value).1 }

pub invariant_of-self : goal.invariant_of-self
invariant_of-self g c =
    let w = c.args.self.now in
    let first = c.refusal.ensures (Close c.args.node c.args.thread) c.is_seat.ensures.known refl in
    let r : Result Reply AllocError = Ok c.close.result in
    record {
      few = w.few;
      all_nodes = w.all_nodes;
      all_places = w.all_places;
      named = w.named;
      whole = whole_there g.D.Area w (Close c.args.node c.args.thread) refl (first.known c.in_default.is) (first.running c.in_default.is) c.args.node refl c.index_mut.result.now c.index_mut.ensures.value r c.close.new.self
          (closed_steps g.D.Area c.args.node c.args.thread c.index_mut.result.now c.close.result c.close.new.self (c.close.ensures.follows c.args.node) c.close.ensures.whole c.close.ensures.names c.close.ensures.log);
    }

pub returns : goal.returns
returns g c =
    let first = c.refusal.ensures (Close c.args.node c.args.thread) c.is_seat.ensures.known refl in
    let r : Result Reply AllocError = Ok c.close.result in
    (node_tries g.D.Area c.args.self.now (Close c.args.node c.args.thread) refl c.refusal.result first c.in_default.is c.args.node refl c.index_mut.result.now c.index_mut.ensures.value r c.close.new.self
    (closed_steps g.D.Area c.args.node c.args.thread c.index_mut.result.now c.close.result c.close.new.self (c.close.ensures.follows c.args.node) c.close.ensures.whole c.close.ensures.names c.close.ensures.log) _ refl refl refl).steps

pub index_mut-requires : goal.index_mut-requires
index_mut-requires g c =
    let w = c.args.self.now in
    omega (arith, w.all_nodes, w.nodes.ok.0, node_within g.D.Area w (Close c.args.node c.args.thread) c.refusal.result (c.refusal.ensures (Close c.args.node c.args.thread) c.is_seat.ensures.known refl) c.in_default.is c.args.node refl)

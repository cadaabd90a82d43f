use Rattle.std.proofs.Common.{refl, arith}
use Rattle.std.specs.Prelude.{Ok, Result}
use Rattle.std.specs.declared.alloc.AllocError.{AllocError}
use Rattle.lc_model.specs.declared.event.Event.TheVariants.{FlushStep}
use Rattle.lc_model.specs.declared.reply.Reply.{Reply}
use Rattle.lc_events.proofs.AtOnce.{node_within}
use Rattle.lc_events.proofs.Layering.{node_tries, refused_running}
use Rattle.lc_events.proofs.NodeSteps.{device_steps, up_there, whole_there}
use Rattle.lc_events.proofs.running.Running.flush_step.Goals as goal

pub returns-in-Some : goal.returns-in-Some
returns-in-Some g c = refused_running g.D.Area c.args.self.now (FlushStep c.args.node) c.refusal.result (c.refusal.ensures (FlushStep c.args.node) c.is_node.ensures.known refl) c.in-Some.refusal c.in-Some.is refl

pub flush_step-requires : goal.flush_step-requires
flush_step-requires g c =
    let first = c.refusal.ensures (FlushStep c.args.node) c.is_node.ensures.known refl in
    record { up = up_there g.D.Area c.args.self.now (FlushStep c.args.node) refl (first.known c.in_default.is) (first.running c.in_default.is) c.args.node refl c.index_mut.result.now c.index_mut.ensures.value }

pub invariant_of-self : goal.invariant_of-self
invariant_of-self g c =
    let w = c.args.self.now in
    let first = c.refusal.ensures (FlushStep c.args.node) c.is_node.ensures.known refl in
    let r : Result Reply AllocError = Ok c.flush_step.result in
    record {
      few = w.few;
      all_nodes = w.all_nodes;
      all_places = w.all_places;
      named = w.named;
      whole = whole_there g.D.Area w (FlushStep c.args.node) refl (first.known c.in_default.is) (first.running c.in_default.is) c.args.node refl c.index_mut.result.now c.index_mut.ensures.value r c.flush_step.new.self
          (device_steps g.D.Area c.args.node (FlushStep c.args.node) c.index_mut.result.now c.flush_step.result c.flush_step.new.self (c.flush_step.ensures.follows c.args.node) c.flush_step.ensures.whole c.flush_step.ensures.device c.flush_step.ensures.names);
    }

pub returns : goal.returns
returns g c =
    let first = c.refusal.ensures (FlushStep c.args.node) c.is_node.ensures.known refl in
    let r : Result Reply AllocError = Ok c.flush_step.result in
    (node_tries g.D.Area c.args.self.now (FlushStep c.args.node) refl c.refusal.result first c.in_default.is c.args.node refl c.index_mut.result.now c.index_mut.ensures.value r c.flush_step.new.self
    (device_steps g.D.Area c.args.node (FlushStep c.args.node) c.index_mut.result.now c.flush_step.result c.flush_step.new.self (c.flush_step.ensures.follows c.args.node) c.flush_step.ensures.whole c.flush_step.ensures.device c.flush_step.ensures.names) _ refl refl refl).steps

pub index_mut-requires : goal.index_mut-requires
index_mut-requires g c =
    let w = c.args.self.now in
    omega (arith, w.all_nodes, w.nodes.ok.0, node_within g.D.Area w (FlushStep c.args.node) c.refusal.result (c.refusal.ensures (FlushStep c.args.node) c.is_node.ensures.known refl) c.in_default.is c.args.node refl)

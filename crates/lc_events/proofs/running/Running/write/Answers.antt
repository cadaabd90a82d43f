use Rattle.std.proofs.Common.{refl, arith}
use Rattle.std.specs.Prelude.{Ok, Result}
use Rattle.std.specs.declared.alloc.AllocError.{AllocError}
use Rattle.lc_model.specs.declared.event.Event.TheVariants.{Write}
use Rattle.lc_model.specs.declared.reply.Reply.{Reply}
use Rattle.lc_events.proofs.AtOnce.{node_within}
use Rattle.lc_events.proofs.Layering.{node_tries, refused_running}
use Rattle.lc_events.proofs.NodeSteps.{of_there, whole_there}
use Rattle.lc_events.proofs.running.Running.write.Goals as goal

pub returns-in-Some : goal.returns-in-Some
returns-in-Some g c = refused_running g.D.Area c.args.self.now (Write c.args.node c.args.thread c.args.segment c.args.offset c.args.bytes.now) c.refusal.result (c.refusal.ensures (Write c.args.node c.args.thread c.args.segment c.args.offset c.args.bytes.now) c.knows_place-known.ensures refl) c.in-Some.refusal c.in-Some.is refl

pub write-requires : goal.write-requires
write-requires g c =
    let first = c.refusal.ensures (Write c.args.node c.args.thread c.args.segment c.args.offset c.args.bytes.now) c.knows_place-known.ensures refl in
    record { seat = (of_there g.D.Area c.args.self.now (Write c.args.node c.args.thread c.args.segment c.args.offset c.args.bytes.now) refl (first.known c.in_default.is) (first.running c.in_default.is) c.args.node refl c.index_mut.result.now c.index_mut.ensures.value).1 }

pub invariant_of-self : goal.invariant_of-self
invariant_of-self g c =
    let w = c.args.self.now in
    let first = c.refusal.ensures (Write c.args.node c.args.thread c.args.segment c.args.offset c.args.bytes.now) c.knows_place-known.ensures refl in
    let r : Result Reply AllocError = Ok c.write.result in
    record {
      few = w.few;
      all_nodes = w.all_nodes;
      all_places = w.all_places;
      named = w.named;
      whole = whole_there g.D.Area w (Write c.args.node c.args.thread c.args.segment c.args.offset c.args.bytes.now) refl (first.known c.in_default.is) (first.running c.in_default.is) c.args.node refl c.index_mut.result.now c.index_mut.ensures.value r c.write.new.self
          (c.write.ensures c.args.node);
    }

pub returns : goal.returns
returns g c =
    let first = c.refusal.ensures (Write c.args.node c.args.thread c.args.segment c.args.offset c.args.bytes.now) c.knows_place-known.ensures refl in
    let r : Result Reply AllocError = Ok c.write.result in
    (node_tries g.D.Area c.args.self.now (Write c.args.node c.args.thread c.args.segment c.args.offset c.args.bytes.now) refl c.refusal.result first c.in_default.is c.args.node refl c.index_mut.result.now c.index_mut.ensures.value r c.write.new.self
    (c.write.ensures c.args.node) _ refl refl refl).steps

pub index_mut-requires : goal.index_mut-requires
index_mut-requires g c =
    let w = c.args.self.now in
    omega (arith, w.all_nodes, w.nodes.ok.0, node_within g.D.Area w (Write c.args.node c.args.thread c.args.segment c.args.offset c.args.bytes.now) c.refusal.result (c.refusal.ensures (Write c.args.node c.args.thread c.args.segment c.args.offset c.args.bytes.now) c.knows_place-known.ensures refl) c.in_default.is c.args.node refl)

use Rattle.std.proofs.Common.{refl}
use Rattle.std.specs.Prelude.{Ok, Result}
use Rattle.std.specs.declared.alloc.AllocError.{AllocError}
use Rattle.lc_model.specs.declared.event.Event.TheVariants.{Write}
use Rattle.lc_model.specs.declared.reply.Reply.{Reply}
use Rattle.lc_events.proofs.NodeSteps.{desk_steps}
use Rattle.lc_events.proofs.node_state.NodeState.write.Goals as goal

pub returns : goal.returns
returns g c = λ node.
    let r : Result Reply AllocError = Ok c.write.result in
    desk_steps g.D.Area node node (Write node c.args.thread c.args.segment c.args.offset c.args.bytes.now) (λ k. Write k c.args.thread c.args.segment c.args.offset c.args.bytes.now) c.args.self.now r
    c.write.new.self refl refl c.write.ensures.follows c.write.ensures.beside c.write.ensures.seats tt tt c.write.ensures.names refl refl (λ e. absurd cc) (λ m s x. refl) (λ m s x reply. refl) (λ reply. refl)

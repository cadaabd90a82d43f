use Rattle.std.proofs.Common.{refl}
use Rattle.std.specs.Prelude.{Ok, Result}
use Rattle.std.specs.declared.alloc.AllocError.{AllocError}
use Rattle.lc_model.specs.declared.event.Event.TheVariants.{Abort}
use Rattle.lc_model.specs.declared.reply.Reply.{Reply}
use Rattle.lc_events.proofs.NodeSteps.{desk_steps}
use Rattle.lc_events.proofs.node_state.NodeState.abort.Goals as goal

pub returns : goal.returns
returns g c = λ node.
    let r : Result Reply AllocError = Ok c.abort.result in
    desk_steps g.D.Area node node (Abort node c.args.thread) (λ k. Abort k c.args.thread) c.args.self.now r c.abort.new.self
    refl refl c.abort.ensures.follows c.abort.ensures.beside c.abort.ensures.seats tt tt c.abort.ensures.names refl refl (λ e. absurd cc) (λ m s x. refl) (λ m s x reply. refl) (λ reply. refl)

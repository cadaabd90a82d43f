use Rattle.std.proofs.Common.{refl}
use Rattle.std.specs.Prelude.{Ok, Result}
use Rattle.std.specs.declared.alloc.AllocError.{AllocError}
use Rattle.lc_model.specs.declared.event.Event.TheVariants.{Begin}
use Rattle.lc_model.specs.declared.reply.Reply.{Reply}
use Rattle.lc_events.proofs.NodeSteps.{desk_steps}
use Rattle.lc_events.proofs.node_state.NodeState.begin.Goals as goal

pub returns : goal.returns
returns g c = λ node.
    let r : Result Reply AllocError = Ok c.in-Ok.reply in
    desk_steps g.D.Area node node (Begin node c.args.thread c.args.segments.now c.args.reading.now) (λ k. Begin k c.args.thread c.args.segments.now c.args.reading.now) c.args.self.now r c.begin.new.self
    refl refl c.in-Ok.ensures.follows c.begin.ensures.beside c.begin.ensures.seats tt tt c.in-Ok.ensures.names refl refl (λ e. absurd cc) (λ m s x. refl) (λ m s x reply. refl) (λ reply. refl)

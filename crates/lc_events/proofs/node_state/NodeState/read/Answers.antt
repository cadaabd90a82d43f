use Rattle.std.proofs.Common.{refl}
use Rattle.lc_model.specs.declared.event.Event.TheVariants.{Read}
use Rattle.lc_events.proofs.NodeSteps.{desk_steps}
use Rattle.lc_events.proofs.node_state.NodeState.read.Goals as goal

pub returns : goal.returns
returns g c = λ node.
    desk_steps g.D.Area node node (Read node c.args.thread c.args.segment c.args.offset c.args.len) (λ k. Read k c.args.thread c.args.segment c.args.offset c.args.len) c.args.self.now c.read.result c.read.new.self
    refl refl c.read.ensures.follows c.read.ensures.beside c.read.ensures.seats c.read.ensures.memory c.read.ensures.err c.read.ensures.names refl refl (λ e. absurd cc) (λ m s x. refl) (λ m s x reply. refl) (λ reply. refl)

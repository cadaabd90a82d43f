use Rattle.std.proofs.Common.{refl}
use Rattle.lc_model.specs.declared.event.Event.TheVariants.{SetRange}
use Rattle.lc_events.proofs.NodeSteps.{desk_steps}
use Rattle.lc_events.proofs.node_state.NodeState.set_range.Goals as goal

pub returns : goal.returns
returns g c = λ node.
    desk_steps g.D.Area node node (SetRange node c.args.thread c.args.segment c.args.offset c.args.len) (λ k. SetRange k c.args.thread c.args.segment c.args.offset c.args.len) c.args.self.now c.set_range.result c.set_range.new.self
    refl refl c.set_range.ensures.follows c.set_range.ensures.beside c.set_range.ensures.seats c.set_range.ensures.memory c.set_range.ensures.err c.set_range.ensures.names refl refl (λ e. absurd cc) (λ m s x. refl) (λ m s x reply. refl) (λ reply. refl)

use Rattle.lc_model.specs.declared.event.Event.TheVariants.{FlushStep}
use Rattle.lc_core.proofs.Replying.{stands_steps}
use Rattle.lc_core.proofs.world.World.flush_step.Goals as goal

pub returns : goal.returns
returns g c = stands_steps g.D.Area (FlushStep c.args.node) _ c.call-reply.result c.args.self.now c.call-reply.new.self (c.flush_progress.ensures c.args.node) c.call-reply.ensures

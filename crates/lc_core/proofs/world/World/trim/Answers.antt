use Rattle.lc_model.specs.declared.event.Event.TheVariants.{Trim}
use Rattle.lc_core.proofs.Replying.{stands_steps}
use Rattle.lc_core.proofs.world.World.trim.Goals as goal

pub returns : goal.returns
returns g c = stands_steps g.D.Area (Trim c.args.node) _ c.call-reply.result c.args.self.now c.call-reply.new.self (c.trimmed.ensures c.args.node) c.call-reply.ensures

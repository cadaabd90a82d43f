use Rattle.lc_core.proofs.Replying.{stands_steps}
use Rattle.lc_core.proofs.world.World.carry_out.Goals as goal

pub returns : goal.returns
returns g c = stands_steps g.D.Area (c.args.event.now) _ c.call-reply.result c.args.self.now c.call-reply.new.self (c.done.ensures c.args.event.now c.requires) c.call-reply.ensures

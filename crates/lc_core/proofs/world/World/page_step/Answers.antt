use Rattle.lc_model.specs.declared.event.Event.TheVariants.{PageStep}
use Rattle.lc_core.proofs.Replying.{stands_steps}
use Rattle.lc_core.proofs.world.World.page_step.Goals as goal

pub returns : goal.returns
returns g c = stands_steps g.D.Area (PageStep c.args.node c.args.segment c.args.page) _ c.call-reply.result c.args.self.now c.call-reply.new.self (c.write_progress.ensures c.args.node c.args.segment c.args.page) c.call-reply.ensures

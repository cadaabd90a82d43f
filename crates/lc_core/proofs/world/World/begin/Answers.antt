use Rattle.std.proofs.Common.{refl}
use Rattle.lc_model.specs.declared.event.Event.TheVariants.{Begin}
use Rattle.lc_core.proofs.Replying.{stands_steps}
use Rattle.lc_core.proofs.world.World.begin.Goals as goal

pub returns : goal.returns
returns g c = stands_steps g.D.Area (Begin c.args.node c.args.thread c.args.writing.now c.args.reading.now) _ c.begin_reply-reply.result c.args.self.now c.begin_reply-reply.new.self (c.done.ensures (Begin c.args.node c.args.thread c.args.writing.now c.args.reading.now) refl) c.begin_reply-reply.ensures

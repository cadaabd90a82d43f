use Rattle.std.proofs.Common.{refl}
use Rattle.lc_model.specs.declared.event.Event.TheVariants.{Abort}
use Rattle.lc_core.proofs.Replying.{stands_steps}
use Rattle.lc_core.proofs.world.World.abort.Goals as goal

pub returns : goal.returns
returns g c = stands_steps g.D.Area (Abort c.args.node c.args.thread) _ c.abort_reply-reply.result c.args.self.now c.abort_reply-reply.new.self (c.done.ensures (Abort c.args.node c.args.thread) refl) c.abort_reply-reply.ensures

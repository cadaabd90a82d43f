use Rattle.std.proofs.Common.{refl}
use Rattle.lc_model.specs.declared.event.Event.TheVariants.{Close}
use Rattle.lc_core.proofs.Replying.{stands_steps}
use Rattle.lc_core.proofs.world.World.close.Goals as goal

pub returns : goal.returns
returns g c = stands_steps g.D.Area (Close c.args.node c.args.thread) _ c.close_reply-reply.result c.args.self.now c.close_reply-reply.new.self (c.done.ensures (Close c.args.node c.args.thread) refl) c.close_reply-reply.ensures

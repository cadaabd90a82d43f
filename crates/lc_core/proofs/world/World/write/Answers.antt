use Rattle.std.proofs.Common.{refl}
use Rattle.lc_model.specs.declared.event.Event.TheVariants.{Write}
use Rattle.lc_core.proofs.Replying.{stands_steps}
use Rattle.lc_core.proofs.world.World.write.Goals as goal

pub returns : goal.returns
returns g c = stands_steps g.D.Area (Write c.args.node c.args.thread c.args.segment c.args.offset c.args.bytes.now) _ c.write_reply-reply.result c.args.self.now c.write_reply-reply.new.self (c.done.ensures (Write c.args.node c.args.thread c.args.segment c.args.offset c.args.bytes.now) refl) c.write_reply-reply.ensures

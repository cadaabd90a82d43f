use Rattle.std.proofs.Common.{refl}
use Rattle.lc_model.specs.declared.event.Event.TheVariants.{Write}
use Rattle.lc_core.proofs.Layering.{steps_down, steps_up}
use Rattle.lc_core.proofs.world.World.write_reply.Goals as goal

pub returns-in-Up : goal.returns-in-Up
returns-in-Up g c = steps_up g.D.Area c.args.self.now _ c.in-Up.up c.write.new.self (Write c.args.node c.args.thread c.args.segment c.args.offset c.args.bytes.now) c.write.result c.in-Up.is refl (λ e. absurd cc) c.write.ensures

pub returns-in_default : goal.returns-in_default
returns-in_default g c = steps_down g.D.Area c.args.self.now _ refl (Write c.args.node c.args.thread c.args.segment c.args.offset c.args.bytes.now) refl c.in_default.not-Up

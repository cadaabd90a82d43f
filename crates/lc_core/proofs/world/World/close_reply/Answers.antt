use Rattle.std.proofs.Common.{refl}
use Rattle.lc_model.specs.declared.event.Event.TheVariants.{Close}
use Rattle.lc_core.proofs.Layering.{steps_down, steps_up}
use Rattle.lc_core.proofs.world.World.close_reply.Goals as goal

pub returns-in-Up : goal.returns-in-Up
returns-in-Up g c = steps_up g.D.Area c.args.self.now _ c.in-Up.up c.close.new.self (Close c.args.node c.args.thread) c.close.result c.in-Up.is refl (λ e. absurd cc) c.close.ensures

pub returns-in_default : goal.returns-in_default
returns-in_default g c = steps_down g.D.Area c.args.self.now _ refl (Close c.args.node c.args.thread) refl c.in_default.not-Up

use Rattle.std.proofs.Common.{refl}
use Rattle.lc_model.specs.declared.event.Event.TheVariants.{SetRange}
use Rattle.lc_core.proofs.Layering.{steps_down, tries_up}
use Rattle.lc_core.proofs.world.World.set_range_reply.Goals as goal

pub returns-in-Up : goal.returns-in-Up
returns-in-Up g c = tries_up g.D.Area c.args.self.now _ c.in-Up.up c.set_range.new.self (SetRange c.args.node c.args.thread c.args.segment c.args.offset c.args.len) c.set_range.result c.in-Up.is refl (λ e. absurd cc) c.set_range.ensures

pub returns-in_default : goal.returns-in_default
returns-in_default g c = steps_down g.D.Area c.args.self.now _ refl (SetRange c.args.node c.args.thread c.args.segment c.args.offset c.args.len) refl c.in_default.not-Up

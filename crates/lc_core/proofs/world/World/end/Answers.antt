use Rattle.std.proofs.Common.{Err, refl}
use Rattle.lc_model.specs.declared.event.Event.TheVariants.{Reserve}
use Rattle.lc_model.specs.declared.refusal.Refusal.TheVariants.{Down as IsDown}
use Rattle.lc_events.specs.declared.call_fault.CallFault.TheVariants.{Refused as IsRefused}
use Rattle.lc_core.proofs.EndCalls.{world_ends}
use Rattle.lc_core.proofs.Layering.{steps_down}
use Rattle.lc_core.proofs.world.World.end.Goals as goal

pub returns-in-Up : goal.returns-in-Up
returns-in-Up g c = world_ends g.D.Area c.args.node c.args.thread c.args.self.now _ c.in-Up.up c.end.new.self c.end.result c.in-Up.is refl c.end.ensures

pub returns-in_default : goal.returns-in_default
returns-in_default g c = (
  Err (IsRefused IsDown),
  _,
  steps_down g.D.Area c.args.self.now _ refl (Reserve c.args.node c.args.thread) refl c.in_default.not-Up,
  (refl, refl),
)

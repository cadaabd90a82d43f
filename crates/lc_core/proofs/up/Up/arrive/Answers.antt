use Rattle.std.proofs.Common.{refl}
use Rattle.lc_model.specs.declared.event.Event.TheVariants.{Arrive}
use Rattle.lc_core.proofs.Devices.{up_whole}
use Rattle.lc_core.proofs.Layering.{up_steps}
use Rattle.lc_core.proofs.up.Up.arrive.Goals as goal

pub invariant_of-self : goal.invariant_of-self
invariant_of-self g c =
    let w = up_whole g.D.Area c.args.self.now c.arrive.new.self c.arrive.ensures.counts.devices in
    record { all_segments = w.all_segments; logs = w.logs; lengths = w.lengths; pages = w.pages; none = w.none; room = w.room }

pub returns : goal.returns
returns g c = up_steps g.D.Area c.args.self.now _ (Arrive c.args.node c.args.segment) c.arrive.result refl (λ m x. tt) refl c.arrive.ensures

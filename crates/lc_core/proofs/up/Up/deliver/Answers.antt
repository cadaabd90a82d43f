use Rattle.std.proofs.Common.{refl}
use Rattle.lc_model.specs.declared.event.Event.TheVariants.{Deliver}
use Rattle.lc_core.proofs.Devices.{up_whole}
use Rattle.lc_core.proofs.Layering.{tries_devices, up_tries}
use Rattle.lc_core.proofs.up.Up.deliver.Goals as goal

pub invariant_of-self : goal.invariant_of-self
invariant_of-self g c =
    let w = up_whole g.D.Area c.args.self.now c.deliver.new.self (tries_devices g.D.Area c.args.self.now.running c.deliver.new.self (Deliver c.args.sender c.args.number c.args.segment c.args.to) c.deliver.result c.deliver.ensures) in
    record { all_segments = w.all_segments; logs = w.logs; lengths = w.lengths; pages = w.pages; none = w.none; room = w.room }

pub returns : goal.returns
returns g c = up_tries g.D.Area c.args.self.now _ (Deliver c.args.sender c.args.number c.args.segment c.args.to) c.deliver.result refl (λ m x. tt) refl c.deliver.ensures

use Rattle.std.proofs.Common.{refl}
use Rattle.lc_model.specs.declared.event.Event.TheVariants.{SetRange}
use Rattle.lc_core.proofs.Devices.{up_whole}
use Rattle.lc_core.proofs.Layering.{tries_devices, up_tries}
use Rattle.lc_core.proofs.up.Up.set_range.Goals as goal

pub invariant_of-self : goal.invariant_of-self
invariant_of-self g c =
    let w = up_whole g.D.Area c.args.self.now c.set_range.new.self (tries_devices g.D.Area c.args.self.now.running c.set_range.new.self (SetRange c.args.node c.args.thread c.args.segment c.args.offset c.args.len) c.set_range.result c.set_range.ensures) in
    record { all_segments = w.all_segments; logs = w.logs; lengths = w.lengths; pages = w.pages; none = w.none; room = w.room }

pub returns : goal.returns
returns g c = up_tries g.D.Area c.args.self.now _ (SetRange c.args.node c.args.thread c.args.segment c.args.offset c.args.len) c.set_range.result refl (λ m x. tt) refl c.set_range.ensures

use Rattle.std.proofs.Common.{refl}
use Rattle.lc_model.specs.declared.event.Event.TheVariants.{Read}
use Rattle.lc_core.proofs.Devices.{up_whole}
use Rattle.lc_core.proofs.Layering.{tries_devices, up_tries}
use Rattle.lc_core.proofs.up.Up.read.Goals as goal

pub invariant_of-self : goal.invariant_of-self
invariant_of-self g c =
    let w = up_whole g.D.Area c.args.self.now c.read.new.self (tries_devices g.D.Area c.args.self.now.running c.read.new.self (Read c.args.node c.args.thread c.args.segment c.args.offset c.args.len) c.read.result c.read.ensures) in
    record { all_segments = w.all_segments; logs = w.logs; lengths = w.lengths; pages = w.pages; none = w.none; room = w.room }

pub returns : goal.returns
returns g c = up_tries g.D.Area c.args.self.now _ (Read c.args.node c.args.thread c.args.segment c.args.offset c.args.len) c.read.result refl (λ m x. tt) refl c.read.ensures

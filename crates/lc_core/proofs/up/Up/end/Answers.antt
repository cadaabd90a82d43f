use Rattle.std.proofs.Common.{refl}
use Rattle.lc_core.proofs.Devices.{up_whole}
use Rattle.lc_core.proofs.EndCalls.{end_devices, up_ends}
use Rattle.lc_core.proofs.up.Up.end.Goals as goal

pub invariant_of-self : goal.invariant_of-self
invariant_of-self g c =
    let w = up_whole g.D.Area c.args.self.now c.end.new.self (end_devices g.D.Area c.args.node c.args.thread c.args.self.now.running c.end.result c.end.new.self c.end.ensures) in
    record { all_segments = w.all_segments; logs = w.logs; lengths = w.lengths; pages = w.pages; none = w.none; room = w.room }

pub returns : goal.returns
returns g c = up_ends g.D.Area c.args.node c.args.thread c.args.self.now _ c.end.result refl c.end.ensures

use Rattle.std.proofs.Common.{refl}
use Rattle.lc_model.specs.declared.event.Event.TheVariants.{Leave}
use Rattle.lc_core.proofs.Devices.{up_whole}
use Rattle.lc_core.proofs.Layering.{up_moves}
use Rattle.lc_core.proofs.up.Up.leave.Goals as goal

pub invariant_of-self : goal.invariant_of-self
invariant_of-self g c =
    let w = up_whole g.D.Area c.args.self.now c.leave.new.self c.leave.ensures.counts.devices in
    record { all_segments = w.all_segments; logs = w.logs; lengths = w.lengths; pages = w.pages; none = w.none; room = w.room }

pub returns : goal.returns
returns g c =
    up_moves g.D.Area c.args.self.now _ (Leave c.args.node c.args.segment) c.leave.result c.is_writing-writing.result refl (λ m x h. c.is_writing-writing.ensures m x c.args.node h) refl
    c.leave.ensures.follows c.leave.ensures.counts c.leave.ensures.unknown c.leave.ensures.names

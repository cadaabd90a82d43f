use Rattle.std.proofs.Common.{rules}
use Rattle.lc_log_side.proofs.SideKeeps.{stays, stays_same}
use Rattle.lc_log_side.proofs.log_side.LogSide.durable.Goals as goal

pub invariant_of-self : goal.invariant_of-self
invariant_of-self g c = stays g.D.Area c.self.inside c.durable_beside.new.flusher c.self.inside.probe c.self.invariant (search rules) c.self.invariant.idle_probe (stays_same _ _ c.durable_beside.ensures.flusher)

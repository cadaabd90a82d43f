use Rattle.lc_model.specs.declared.reply.Reply.{Reply}
use Rattle.lc_core.specs.Truncating.{Truncates}
use Rattle.lc_core.specs.Truncation.{Remains, steps_left}
use Rattle.lc_core.specs.declared.world.World.{World}
use Rattle.lc_core.proofs.world.World.truncate.Given as goal

abbrev pub invariant-loop-next : goal.invariant-loop-next
invariant-loop-next g l =
    (reply : Reply) (new : World g.row.D.Denot g.D.Area) → Remains g.D.Area l.truncation l.self reply new → Truncates g.D.Area l.node l.fn.self reply new

abbrev pub decreases-loop-next : goal.decreases-loop-next
decreases-loop-next g l = steps_left l.truncation

use Rattle.std.proofs.Common.{◌-◌}
use Rattle.lc_model.specs.declared.event.Event.TheVariants.{FlushStep}
use Rattle.lc_model.specs.declared.reply.Reply.{Reply}
use Rattle.lc_core.specs.Truncating.{Repeats}
use Rattle.lc_core.specs.declared.world.World.{World}
use Rattle.lc_core.proofs.world.World.flush.Given as goal

abbrev pub invariant-loop : goal.invariant-loop
invariant-loop g l =
    (reply : Reply) (new : World g.row.D.Denot g.D.Area) → Repeats g.D.Area (4 - l.counter) (FlushStep l.node) l.self reply new → Repeats g.D.Area 3 (FlushStep l.node) l.fn.self reply new

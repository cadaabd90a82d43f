use Rattle.std.proofs.Common.{◌-◌, ◌+◌}
use Rattle.std.specs.Prelude.{Option}
use Rattle.lc_model.specs.declared.refusal.Refusal.{Refusal}
use Rattle.lc_core.specs.Truncating.{EachFrom, WritesSegment}
use Rattle.lc_core.specs.declared.world.World.{World}
use Rattle.lc_core.proofs.world.World.first_due_from.Given as goal

abbrev pub invariant-loop-place : goal.invariant-loop-place
invariant-loop-place g l =
    (refused : Option Refusal) (new : World g.row.D.Denot g.D.Area)
    → EachFrom g.D.Area (l.segments - l.place) l.place (λ place. WritesSegment g.D.Area l.node (place + 1) l.pages) l.self refused new
    → EachFrom g.D.Area (l.segments - l.from) l.from (λ place. WritesSegment g.D.Area l.node (place + 1) l.pages) l.self refused new

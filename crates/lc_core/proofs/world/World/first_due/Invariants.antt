use Rattle.std.proofs.Common.{◌-◌}
use Rattle.std.specs.Prelude.{Option}
use Rattle.lc_model.specs.declared.refusal.Refusal.{Refusal}
use Rattle.lc_core.specs.Truncating.{CallsDue, EachFrom}
use Rattle.lc_core.specs.declared.world.World.{World}
use Rattle.lc_core.proofs.world.World.first_due.Given as goal

abbrev pub invariant-loop-page : goal.invariant-loop-page
invariant-loop-page g l =
    (refused : Option Refusal) (new : World g.row.D.Denot g.D.Area) → EachFrom g.D.Area (l.pages - l.page) l.page (CallsDue g.D.Area l.node l.segment) l.self refused new
    → EachFrom g.D.Area (l.pages - l.from) l.from (CallsDue g.D.Area l.node l.segment) l.self refused new

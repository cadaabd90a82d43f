use Rattle.lc_look.specs.Draws.{AreEach, IsCellOf}
use Rattle.lc_look.proofs.drawing.field_of.Given as goal

abbrev pub invariant-loop-page : goal.invariant-loop-page
invariant-loop-page l = AreEach (IsCellOf l.forecast.store l.segment l.area) l.page l.cells.items

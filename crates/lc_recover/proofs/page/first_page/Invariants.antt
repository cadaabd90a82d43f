use Rattle.std.proofs.Common.{take, All}
use Rattle.lc_recover.specs.Page.{IsOf}
use Rattle.lc_recover.proofs.page.first_page.Given as goal

abbrev pub invariant-loop-count : goal.invariant-loop-count
invariant-loop-count l = All (IsOf l.first.segment l.first.page) (take l.count l.changes)

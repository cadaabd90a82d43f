use Rattle.std.proofs.Common.{take, All}
use Rattle.lc_recover.specs.Page.{IsOfAnother}
use Rattle.lc_recover.proofs.page.changes_of.Given as goal

abbrev pub invariant-loop-place : goal.invariant-loop-place
invariant-loop-place l = All (IsOfAnother l.segment l.page) (take l.place l.changes)

use Rattle.std.proofs.Common.{◌-◌}
use Rattle.lc_events.proofs.Trimmed.{AreDone}
use Rattle.lc_events.proofs.trimming.applied_in_front.Given as goal

abbrev pub invariant-loop-number : goal.invariant-loop-number
invariant-loop-number g l = AreDone g.D.Area l.nodes l.journal (l.number - l.journal.trimmed)

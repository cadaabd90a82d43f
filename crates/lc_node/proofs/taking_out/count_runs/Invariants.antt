use Rattle.lc_node.specs.Sides.{CountsRuns}
use Rattle.lc_node.proofs.Onwards.{Onwards}
use Rattle.lc_node.proofs.taking_out.count_runs.Given as goal

abbrev pub invariant-loop-place : goal.invariant-loop-place
invariant-loop-place g l = Onwards (CountsRuns l.runs) l.initial.sides l.sides l.slots l.place

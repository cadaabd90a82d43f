use Rattle.lc_stage.specs.Seats.{commit_view, IsSeatOf, IsIdle}
use Rattle.lc_tests_node.proofs.crowds.workers.Given as goal

abbrev pub invariant-loop-number : goal.invariant-loop-number
invariant-loop-number l = IsSeatOf l.node.stage l.seat × IsIdle (commit_view l.seat)

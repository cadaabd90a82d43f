use Rattle.lc_stage.specs.Seats.{commit_view, IsSeatOf, IsIdle}
use Rattle.lc_tests_cluster.proofs.crews.add_workers.Given as goal

abbrev pub invariant-loop-index : goal.invariant-loop-index
invariant-loop-index g l = IsSeatOf l.node.stage l.seat × IsIdle (commit_view l.seat)

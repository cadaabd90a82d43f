use Rattle.lc_stage.specs.Seats.{commit_view, IsSeatOf, IsIdle}
use Rattle.lc_tests_cluster.proofs.coming_up.act_often.Given as goal

abbrev pub invariant-loop-step : goal.invariant-loop-step
invariant-loop-step g l = IsSeatOf l.node.stage l.seat × IsIdle (commit_view l.seat)

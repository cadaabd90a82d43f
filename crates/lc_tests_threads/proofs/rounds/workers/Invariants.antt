use Rattle.lc_stage.specs.Seats.{commit_view, IsSeatOf, IsIdle}
use Rattle.lc_tests_threads.proofs.rounds.workers.Given as goal

abbrev pub invariant-loop-id : goal.invariant-loop-id
invariant-loop-id l = IsSeatOf l.stage l.first × IsIdle (commit_view l.first)

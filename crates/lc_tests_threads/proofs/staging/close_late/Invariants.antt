use Rattle.lc_stage.specs.Seats.{commit_view, IsSeatOf, IsFresh}
use Rattle.lc_tests_threads.proofs.staging.close_late.Given as goal

abbrev pub invariant-loop : goal.invariant-loop
invariant-loop l = IsSeatOf l.stage l.seat × IsFresh 8 (commit_view l.seat)

use Rattle.std.proofs.Common.{rules}
use Rattle.lc_stage.specs.Seats.{commit_view}
use Rattle.lc_stage.proofs.SampleRecords.{still_fresh}
use Rattle.lc_tests_threads.proofs.staging.close_late.Goals as goal

pub close_eight-requires-clause-fresh : goal.close_eight-requires-clause-fresh
close_eight-requires-clause-fresh c = still_fresh 8 c.tail.result (commit_view c.loop.seat) _ c.loop.invariant.1 c.tail.ensures.seen

pub loop-preserved : goal.loop-preserved
loop-preserved c = (search rules, still_fresh 8 c.tail.result (commit_view c.loop.seat) _ c.loop.invariant.1 c.tail.ensures.seen)

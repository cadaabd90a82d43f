use Rattle.lc_stage.specs.Seats.{commit_view}
use Rattle.lc_tests_threads.proofs.rounds.put.Goals as goal

pub close_eight-requires-clause-fresh : goal.close_eight-requires-clause-fresh
close_eight-requires-clause-fresh c = (c.tail-at.result, commit_view c.tail-at.new.seat, c.in-Ok.ensures.ok.1)

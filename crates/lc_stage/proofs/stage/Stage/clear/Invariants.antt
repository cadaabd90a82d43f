use Rattle.std.proofs.Common.{◌≡◌, ◌-◌}
use Rattle.lc_stage.specs.Seats.{flush_view, IsFlusherOf, IsSettled}
use Rattle.lc_stage.proofs.stage.Stage.clear.Given as goal

abbrev pub invariant-earlier : goal.invariant-earlier
invariant-earlier l = record {
  same : IsFlusherOf l.self l.flusher;
  only : flush_view l.flusher ≡ record (flush_view l.initial.flusher) { ended_cleared = (flush_view l.flusher).ended_cleared };
}

abbrev pub decreases-earlier : goal.decreases-earlier
decreases-earlier l = l.flusher.ended - l.flusher.ended_cleared

abbrev pub invariant-this : goal.invariant-this
invariant-this l = record {
  same : IsFlusherOf l.self l.flusher;
  only : flush_view l.flusher ≡ record (flush_view l.initial.flusher) { cleared = (flush_view l.flusher).cleared };
  settled : IsSettled (flush_view l.flusher);
}

abbrev pub decreases-this : goal.decreases-this
decreases-this l = l.flusher.end - l.flusher.cleared

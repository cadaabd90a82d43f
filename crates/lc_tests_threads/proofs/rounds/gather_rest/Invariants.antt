use Rattle.std.proofs.Common.{◌≡◌, ◌≤◌, ◌+◌, ◌*◌, true, length}
use Rattle.lc_stage.specs.Seats.{flush_view, IsFlusherOf}
use Rattle.lc_stage.specs.Publishing.{HoldsTaken}
use Rattle.lc_tests_threads.specs.Rounds.{IsUncleared}
use Rattle.lc_tests_threads.proofs.rounds.gather_rest.Given as goal

abbrev pub invariant-loop : goal.invariant-loop
invariant-loop g l = IsFlusherOf l.stage l.flusher × (l.stage.room ≤ l.group.room) × (l.group.room ≡ l.fn.group.room)
    × HoldsTaken g.D.Area l.log.area l.log.end (flush_view l.flusher).taken × (8 * l.stage.room + 8 ≤ length (g.D.Area.now l.log.area))
    × ((flush_view l.flusher).sealed ≡ true) × ((flush_view l.flusher).sealed_at ≡ l.end) × IsUncleared (flush_view l.flusher)

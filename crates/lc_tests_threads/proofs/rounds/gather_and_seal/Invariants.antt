use Rattle.std.proofs.Common.{◌≡◌, ◌≤◌, ◌+◌, ◌*◌, length}
use Rattle.lc_stage.specs.Seats.{flush_view, IsSeatOf, IsFlusherOf}
use Rattle.lc_stage.specs.Publishing.{HoldsTaken}
use Rattle.lc_tests_threads.specs.Rounds.{IsUncleared}
use Rattle.lc_tests_threads.proofs.rounds.gather_and_seal.Given as goal

abbrev pub invariant-loop-turn : goal.invariant-loop-turn
invariant-loop-turn g l = IsFlusherOf l.stage l.flusher × IsSeatOf l.stage l.seat × (l.stage.room ≤ l.group.room) × (l.group.room ≡ l.fn.group.room)
    × HoldsTaken g.D.Area l.log.area l.log.end (flush_view l.flusher).taken × (8 * l.stage.room + 8 ≤ length (g.D.Area.now l.log.area)) × IsUncleared (flush_view l.flusher)

use Rattle.std.proofs.Common.{◌≡◌, ◌≤◌, length, take, vec_capacity}
use Rattle.lc_core.specs.Faults.{CountsAll, phase_failures}
use Rattle.lc_core.specs.Lives.{FollowsLives}
use Rattle.lc_core.specs.Runs.{FollowsRun}
use Rattle.lc_core.proofs.EachCall.{Chain}
use Rattle.lc_core.proofs.world.World.run.Given as goal

abbrev pub invariant-loop-event : goal.invariant-loop-event
invariant-loop-event g l =
    (length l.replies.items ≡ l.event-index)
    × FollowsRun g.D.Area l.initial.self (take l.event-index l.events) l.replies.items l.self
    × CountsAll l.replies.items (phase_failures g.D.Area l.initial.self.phase) (phase_failures g.D.Area l.self.phase)
    × (length l.events ≤ vec_capacity l.replies)
    × Chain g.D.Area g.D.Stoppable.left (take l.event-index l.events) l.replies.items l.initial.self.phase l.self.phase
    × FollowsLives g.D.Area l.initial.self.phase (take l.event-index l.events) l.replies.items l.self.phase

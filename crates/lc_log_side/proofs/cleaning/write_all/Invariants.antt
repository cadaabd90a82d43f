use Rattle.std.proofs.Common.{◌≡◌, ◌≤◌, []}
use Rattle.std.specs.VecDeque.{deque_capacity}
use Rattle.lc_log_side.specs.Truncates.{IsSameHeld, WritesSide}
use Rattle.lc_log_side.proofs.Forwards.{Forwards}
use Rattle.lc_log_side.proofs.cleaning.write_all.Given as goal

abbrev pub invariant-loop-place : goal.invariant-loop-place
invariant-loop-place g l = record {
  written : Forwards (λ h k. WritesSide g.D.Area h k × IsSameHeld h k) l.initial.sides.items l.sides.items l.place;
  none : l.writes.items ≡ [];
  room : deque_capacity l.initial.writes ≤ deque_capacity l.writes;
}

use Rattle.std.proofs.Common.{◌≡◌}
use Rattle.lc_lock.specs.TicketQueue.{IsWaiting}
use Rattle.lc_lock.specs.Loans.{key_of}
use Rattle.lc_lock.proofs.ticket_lock.TicketLock.wait_for_turn.Given as goal

abbrev pub invariant-loop : goal.invariant-loop
invariant-loop g l = record {
  own : l.seat.table_id ≡ l.self.table.shared.table_id;
  waits : IsWaiting (key_of l.self) l.ticket l.seat.me;
}

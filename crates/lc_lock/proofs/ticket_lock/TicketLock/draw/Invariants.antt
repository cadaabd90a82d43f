use Rattle.std.proofs.Common.{◌≡◌, []}
use Rattle.lc_lock.specs.declared.turn.TicketState.TheVariants.{Idle}
use Rattle.lc_lock.specs.Loans.{key_of}
use Rattle.lc_lock.proofs.ticket_lock.TicketLock.draw.Given as goal

abbrev pub invariant-loop : goal.invariant-loop
invariant-loop g l = record {
  own : l.seat.table_id ≡ l.self.table.shared.table_id;
  key : l.seat.me.0.key ≡ key_of l.self;
  idle : l.seat.me.0.turn ≡ Idle;
  bare : l.seat.me.1 ≡ [];
}

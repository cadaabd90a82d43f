-- What a clause says of a lock and of a loan.
use Rattle.std.specs.Prelude.{◌≡◌}
use Rattle.lc_lock.specs.declared.ticket_lock.TicketLock.{TicketLock}
use Rattle.lc_lock.specs.declared.loan.Loan.{Loan}

module _ {T K : Type 0} where
  -- what the lock's value fits
  abbrev pub key_of : TicketLock T K → K
  key_of lock = lock.table.shared.key

  -- this lock's value is out by the loan
  abbrev pub IsLoanOf : TicketLock T K → Loan T K → Type 0
  IsLoanOf lock loan = loan.seat.table_id ≡ lock.table.shared.table_id

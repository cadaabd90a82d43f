-- The numbers of the faults.
use Rattle.std.specs.Prelude.{ℕ, Bool, true, false}
use Rattle.lc_tx.specs.declared.tx_fault.TxFault.{TxFault}
use Rattle.lc_tx.specs.declared.tx_fault.TxFault.TheVariants.{Busy, NotHere, NoRange, OutOfSegment, NotLocked, NoMemory, TooLong, SequenceSpent, EmptyRange, TooManyRanges, ReadOnly}

abbrev pub number_of : TxFault → ℕ
number_of (Busy segment) = 1
number_of (NotHere segment) = 2
number_of NoRange = 3
number_of OutOfSegment = 4
number_of NotLocked = 5
number_of NoMemory = 6
number_of (TooLong words) = 7
number_of (SequenceSpent segment) = 8
number_of EmptyRange = 9
number_of TooManyRanges = 10
number_of (ReadOnly segment) = 11

-- Which faults each call may have

abbrev pub is_of_begin : TxFault → Bool
is_of_begin (Busy segment) = true
is_of_begin (NotHere segment) = true
is_of_begin NoMemory = true
is_of_begin _ = false

abbrev pub is_of_lock : TxFault → Bool
is_of_lock NotLocked = true
is_of_lock (ReadOnly segment) = true
is_of_lock EmptyRange = true
is_of_lock _ = false

abbrev pub is_of_set_range : TxFault → Bool
is_of_set_range NotLocked = true
is_of_set_range (ReadOnly segment) = true
is_of_set_range EmptyRange = true
is_of_set_range OutOfSegment = true
is_of_set_range TooManyRanges = true
is_of_set_range NoMemory = true
is_of_set_range _ = false

abbrev pub is_of_read : TxFault → Bool
is_of_read NotLocked = true
is_of_read OutOfSegment = true
is_of_read NoMemory = true
is_of_read _ = false

abbrev pub is_of_needs : TxFault → Bool
is_of_needs (SequenceSpent segment) = true
is_of_needs (TooLong words) = true
is_of_needs _ = false

abbrev pub is_of_end : TxFault → Bool
is_of_end (SequenceSpent segment) = true
is_of_end (TooLong words) = true
is_of_end NoMemory = true
is_of_end _ = false

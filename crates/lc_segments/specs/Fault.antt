-- The numbers of the faults.
use Rattle.std.specs.Prelude.{ℕ}
use Rattle.lc_tx.specs.declared.tx_fault.TxFault.{TxFault}
use Rattle.lc_tx.specs.declared.tx_fault.TxFault.TheVariants.{Busy as IsBusy, NotHere as IsNotHere, NoRange as HasNoRange, OutOfSegment as IsOutOfSegment, NotLocked as IsNotLocked, NoMemory as HasNoMemory, TooLong as IsTooLong, SequenceSpent as IsSequenceSpent, EmptyRange as IsEmptyRange, TooManyRanges as HasTooManyRanges, ReadOnly as IsReadOnly}
use Rattle.lc_rest.specs.declared.adopt_fault.AdoptFault.{AdoptFault}
use Rattle.lc_rest.specs.declared.adopt_fault.AdoptFault.TheVariants.{Mismatch as Disagrees, NoMemory as LacksMemory, DeviceFault as Fails}
use Rattle.lc_segments.specs.declared.node_fault.NodeFault.{NodeFault}
use Rattle.lc_segments.specs.declared.node_fault.NodeFault.TheVariants.{Busy, NotHere, NoRange, OutOfSegment, NotLocked, NoMemory, TooLong, SequenceSpent, EmptyRange, TooManyRanges, Full, Sealed, Lost, DeviceFault, Halted, Mismatch, Token, RoundsSpent, Unclean, ChannelFull, ReadOnly}

abbrev pub number_of : NodeFault → ℕ
number_of (Busy segment) = 1
number_of (NotHere segment) = 2
number_of NoRange = 3
number_of OutOfSegment = 4
number_of NotLocked = 5
number_of NoMemory = 6
number_of (TooLong words) = 7
number_of (SequenceSpent segment) = 8
number_of EmptyRange = 9
number_of TooManyRanges = 10
number_of (Full tail need) = 11
number_of Sealed = 12
number_of (Lost seen) = 13
number_of DeviceFault = 14
number_of Halted = 15
number_of (Mismatch part) = 16
number_of (Token fault) = 17
number_of RoundsSpent = 18
number_of (Unclean segment seq) = 19
number_of (ChannelFull to) = 20
number_of (ReadOnly segment) = 21

-- the fault of the same name
abbrev pub of_tx : TxFault → NodeFault
of_tx (IsBusy segment) = Busy segment
of_tx (IsNotHere segment) = NotHere segment
of_tx HasNoRange = NoRange
of_tx IsOutOfSegment = OutOfSegment
of_tx IsNotLocked = NotLocked
of_tx HasNoMemory = NoMemory
of_tx (IsTooLong words) = TooLong words
of_tx (IsSequenceSpent segment) = SequenceSpent segment
of_tx IsEmptyRange = EmptyRange
of_tx HasTooManyRanges = TooManyRanges
of_tx (IsReadOnly segment) = ReadOnly segment

abbrev pub of_adoption : AdoptFault → NodeFault
of_adoption (Disagrees part) = Mismatch part
of_adoption LacksMemory = NoMemory
of_adoption Fails = DeviceFault

-- What a store answers where a transaction refused.
use Rattle.std.specs.Prelude.{Option, Some, None}
use Rattle.lc_model.specs.declared.refusal.Refusal.{Refusal}
use Rattle.lc_model.specs.declared.refusal.Refusal.TheVariants.{Busy, NotHere, NotLocked, EmptyRange, OutOfSegment, NoRange, TooManyRanges, SequenceSpent, TooLong, ReadOnly}
use Rattle.lc_tx.specs.declared.tx_fault.TxFault.{TxFault}
use Rattle.lc_tx.specs.declared.tx_fault.TxFault.TheVariants.{Busy as IsBusy, NotHere as IsNotHere, NoRange as HasNoRange, OutOfSegment as IsOutside, NotLocked as IsNotLocked, NoMemory, TooLong as IsTooLong, SequenceSpent as IsSpent, EmptyRange as IsEmpty, TooManyRanges as AreTooMany, ReadOnly as IsReadOnly}

-- the refusal of the same name; there is none for want of memory
abbrev pub refusal_of : TxFault → Option Refusal
refusal_of (IsBusy segment) = Some (Busy segment)
refusal_of (IsNotHere segment) = Some (NotHere segment)
refusal_of HasNoRange = Some NoRange
refusal_of IsOutside = Some (OutOfSegment None)
refusal_of IsNotLocked = Some NotLocked
refusal_of NoMemory = None
refusal_of (IsTooLong words) = Some (TooLong words)
refusal_of (IsSpent segment) = Some (SequenceSpent segment)
refusal_of IsEmpty = Some EmptyRange
refusal_of AreTooMany = Some TooManyRanges
refusal_of (IsReadOnly segment) = Some (ReadOnly segment)

-- The numbers of the refusals.
use Rattle.std.specs.Prelude.{ℕ}
use Rattle.lc_model.specs.declared.refusal.Refusal.{Refusal}
use Rattle.lc_model.specs.declared.refusal.Refusal.TheVariants.{Down, Unknown, Halted, OutOfTurn, Busy, NotHere, NotLocked, EmptyRange, OutOfSegment, NoRange, TooManyRanges, SequenceSpent, TooLong, Sealed, Full, Held, Writing, Unflushed, Behind, Uncommitted, NotNewer, Unclean, RoundsSpent, DeviceFault, BadGeometry, Twice, Gap, ReadOnly}

-- the number of a refusal
abbrev pub number_of : Refusal → ℕ
number_of Down = 1
number_of Unknown = 2
number_of Halted = 3
number_of OutOfTurn = 4
number_of (Busy segment) = 5
number_of (NotHere segment) = 6
number_of NotLocked = 7
number_of EmptyRange = 8
number_of (OutOfSegment area) = 9
number_of NoRange = 10
number_of TooManyRanges = 11
number_of (SequenceSpent segment) = 12
number_of (TooLong words) = 13
number_of Sealed = 14
number_of (Full tail need) = 15
number_of Held = 16
number_of Writing = 17
number_of Unflushed = 18
number_of (Behind applied seq) = 19
number_of Uncommitted = 20
number_of NotNewer = 21
number_of (Unclean segment seq) = 22
number_of RoundsSpent = 23
number_of DeviceFault = 24
number_of (BadGeometry area) = 25
number_of (Twice segment seq) = 26
number_of (Gap segment seq) = 27
number_of (ReadOnly segment) = 28

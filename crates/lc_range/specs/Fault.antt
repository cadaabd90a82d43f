-- The numbers of the faults.
use Rattle.std.specs.Prelude.{ℕ}
use Rattle.lc_range.specs.declared.fault.RangeFault.{RangeFault}
use Rattle.lc_range.specs.declared.fault.RangeFault.TheVariants.{OutOfSegment, EmptyRange, TooManyRanges, NoMemory}

abbrev pub number_of : RangeFault → ℕ
number_of OutOfSegment = 1
number_of EmptyRange = 2
number_of TooManyRanges = 3
number_of NoMemory = 4

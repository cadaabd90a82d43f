-- The numbers of the faults.
use Rattle.std.specs.Prelude.{ℕ}
use Rattle.lc_record.specs.declared.fault.RecordFault.{RecordFault}
use Rattle.lc_record.specs.declared.fault.RecordFault.TheVariants.{NotCanonical, TooLong, NoMemory}

abbrev pub number_of : RecordFault → ℕ
number_of NotCanonical = 1
number_of (TooLong words) = 2
number_of NoMemory = 3

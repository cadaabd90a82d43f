-- The numbers of the faults.
use Rattle.std.specs.Prelude.{ℕ}
use Rattle.lc_rest.specs.declared.adopt_fault.AdoptFault.{AdoptFault}
use Rattle.lc_rest.specs.declared.adopt_fault.AdoptFault.TheVariants.{Mismatch, NoMemory, DeviceFault}

abbrev pub number_of : AdoptFault → ℕ
number_of (Mismatch part) = 1
number_of NoMemory = 2
number_of DeviceFault = 3

-- The numbers of the faults at the opening of a file.
use Rattle.std.specs.Prelude.{ℕ}
use Rattle.lc_disk.specs.declared.open_fault.OpenFault.{OpenFault}
use Rattle.lc_disk.specs.declared.open_fault.OpenFault.TheVariants.{NotOpened, Exists, NoMemory}

abbrev pub open_fault_number : OpenFault → ℕ
open_fault_number NotOpened = 1
open_fault_number Exists = 2
open_fault_number NoMemory = 3

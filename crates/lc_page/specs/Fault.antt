-- The numbers of the faults.
use Rattle.std.specs.Prelude.{ℕ}
use Rattle.lc_page.specs.declared.fault.PageFault.{PageFault}
use Rattle.lc_page.specs.declared.fault.PageFault.TheVariants.{Uncommitted, NotNewer, DeviceFault}

-- a fault's number
abbrev pub code_of : PageFault → ℕ
code_of Uncommitted = 1
code_of NotNewer = 2
code_of DeviceFault = 3

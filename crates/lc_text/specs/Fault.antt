-- The numbers of the faults, and what the fault of a script is among those of the tool.
use Rattle.std.specs.Prelude.{ℕ}
use Rattle.lc_text.specs.declared.script_fault.ScriptFault.{ScriptFault}
use Rattle.lc_text.specs.declared.script_fault.ScriptFault.TheVariants.{Read as IsRead, Write as IsWrite}
use Rattle.lc_text.specs.declared.tool_fault.ToolFault.{ToolFault}
use Rattle.lc_text.specs.declared.tool_fault.ToolFault.TheVariants.{Read, Write, NoMemory}

abbrev pub number_of : ToolFault → ℕ
number_of Read = 1
number_of Write = 2
number_of NoMemory = 3

abbrev pub of_script : ScriptFault → ToolFault
of_script IsRead = Read
of_script IsWrite = Write

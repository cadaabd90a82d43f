use Rattle.lc_look.proofs.json.write_fault.Goals as goal

pub returns-in-DeviceFault : goal.returns-in-DeviceFault
returns-in-DeviceFault g c = rw c.in-DeviceFault.is c.write-in-DeviceFault.ensures.bytes

pub returns-in-NoMemory : goal.returns-in-NoMemory
returns-in-NoMemory g c = rw c.in-NoMemory.is c.write-in-NoMemory.ensures.bytes

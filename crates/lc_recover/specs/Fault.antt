-- The numbers of the faults, the refusals to them, and which of them a merge of all logs answers.
use Rattle.std.specs.Prelude.{ℕ, Option, Some, None}
use Rattle.lc_model.specs.Merge.{StoreText, Refuses, BadGeometry as IsOther, OutOfSegment as IsOutside, Twice as IsTwice, Gap as IsGap}
use Rattle.lc_model.specs.declared.refusal.Refusal.{Refusal}
use Rattle.lc_recover.specs.declared.fault.RecoverFault.{RecoverFault}
use Rattle.lc_recover.specs.declared.fault.RecoverFault.TheVariants.{BadGeometry, Gap, Twice, OutOfSegment, DeviceFault, NoMemory}

-- a fault's number
abbrev pub code_of : RecoverFault → ℕ
code_of (BadGeometry area) = 1
code_of (Gap segment seq) = 2
code_of (Twice segment seq) = 3
code_of (OutOfSegment area) = 4
code_of DeviceFault = 5
code_of NoMemory = 6

-- the refusal to a fault; there is none to want of memory
abbrev pub refusal_to : RecoverFault → Option Refusal
refusal_to (BadGeometry area) = Some (Refusal.BadGeometry area)
refusal_to (Gap segment seq) = Some (Refusal.Gap segment seq)
refusal_to (Twice segment seq) = Some (Refusal.Twice segment seq)
refusal_to (OutOfSegment area) = Some (Refusal.OutOfSegment (Some area))
refusal_to DeviceFault = Some Refusal.DeviceFault
refusal_to NoMemory = None

-- the merge of the store is refused so, or memory was wanted
abbrev pub IsRefusal : StoreText → RecoverFault → Type 0
IsRefusal store (BadGeometry area) = Refuses store (IsOther area)
IsRefusal store (Gap segment seq) = Refuses store (IsGap segment seq)
IsRefusal store (Twice segment seq) = Refuses store (IsTwice segment seq)
IsRefusal store (OutOfSegment area) = Refuses store (IsOutside area)
IsRefusal store DeviceFault = ⊥
IsRefusal store NoMemory = Unit {0}

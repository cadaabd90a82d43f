-- The two slots of a page.
use Rattle.std.specs.Prelude.{ℕ, Option, Some, None}
use Rattle.lc_page.specs.declared.slot.Slot.{Slot}
use Rattle.lc_page.specs.declared.slot.Slot.TheVariants.{First, Second}

-- its number
abbrev pub number_of : Slot → ℕ
number_of First = 0
number_of Second = 1

-- the other one
abbrev pub other : Slot → Slot
other First = Second
other Second = First

-- where the next page goes: not over the present one, and to the first slot where there is none
abbrev pub next_slot : Option Slot → Slot
next_slot None = First
next_slot (Some slot) = other slot

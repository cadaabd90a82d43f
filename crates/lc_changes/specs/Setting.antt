-- What is set of images, and why a call is refused.
use Rattle.std.specs.Prelude.{◌⊎◌, ℕ, ◌+◌, ◌<◌, ◌≤◌, Bool, true, false, List}
use Rattle.lc_range.specs.RangeSet.{Has, NeedsRunsAbove}
use Rattle.lc_range.specs.Undo.{NeedsBytesAbove, NeedsCopiesAbove, OldBytes}
use Rattle.lc_range.specs.declared.range.Range.{Range}
use Rattle.lc_tx.specs.declared.tx_fault.TxFault.{TxFault}
use Rattle.lc_tx.specs.declared.tx_fault.TxFault.TheVariants.{EmptyRange, NoMemory, NoRange, OutOfSegment, TooManyRanges}

-- each of len positions of a segment from offset on is set
abbrev pub AreSet : List Range → ℕ → ℕ → ℕ → Type 0
AreSet set segment offset len = (k : ℕ) → offset ≤ k → k < offset + len → Has set segment k

-- with len positions more from offset on, more than 8 runs would be set, or more than 8 copies of old bytes kept, or more than
-- 64 bytes: those take memory
abbrev pub RangeTakesMemory : List Range → List OldBytes → ℕ → ℕ → ℕ → Type 0
RangeTakesMemory set undo segment offset len =
    NeedsRunsAbove 8 set segment offset len ⊎ (NeedsCopiesAbove 8 undo set segment offset len ⊎ NeedsBytesAbove 64 undo set segment offset len)

-- Which faults each call may have

abbrev pub is_of_set : TxFault → Bool
is_of_set EmptyRange = true
is_of_set OutOfSegment = true
is_of_set TooManyRanges = true
is_of_set NoMemory = true
is_of_set _ = false

abbrev pub is_of_write : TxFault → Bool
is_of_write OutOfSegment = true
is_of_write NoRange = true
is_of_write _ = false

-- Of a node: a run of a work, as its caller knows it.
use Rattle.std.specs.Prelude.{◌≡◌, ◌⊎◌, ℕ, List, [], Option, Some, None, IsTrue, Ok, Err}
use Rattle.lc_record.specs.Part.{part_of}
use Rattle.lc_record.specs.Transaction.{is_member}
use Rattle.lc_record.specs.declared.part.Part.{Part}
use Rattle.lc_record.specs.declared.record.Record.{Record}
use Rattle.lc_record.specs.declared.record.RangeData.{RangeData}
use Rattle.lc_tx.specs.Fault.{is_of_end}
use Rattle.lc_tx.specs.Image.{laid_over}
use Rattle.lc_tx.specs.declared.tx_fault.TxFault.{TxFault}
use Rattle.lc_segments.specs.Ran.{Bytes, Ran, Runs, Tells}

-- it answered the fault, or it ran and the fault is one of its record
abbrev pub IsRefusedFor : Tells → List ℕ → Bytes → TxFault → Type 0
IsRefusedFor tells segments old fault =
    ((new : Bytes) × (set : Runs) × Ran tells segments old (Err fault) new set)
    ⊎ ((new : Bytes) × (set : Runs) × Ran tells segments old (Ok tt) new set × IsTrue (is_of_end fault))

abbrev pub ranges_in : Option Part → List RangeData
ranges_in None = []
ranges_in (Some part) = part.ranges

-- the ranges of the record, laid over the old bytes of these segments, give the new ones
abbrev pub Brings : Record → List ℕ → Bytes → Bytes → Type 0
Brings r segments old new = (s : ℕ) → IsTrue (is_member s segments) → laid_over (ranges_in (part_of s r)) (old s) ≡ new s

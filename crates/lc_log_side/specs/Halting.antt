-- Of a log under its lock: what keeps a node from serving on.
use Rattle.std.specs.Prelude.{◌≡◌, ◌⊎◌, ◌<◌, true, false}
use Rattle.lc_disk.specs.declared.area.Area.{Ghosts}
use Rattle.lc_log_side.specs.LogView.{LogView}
use Rattle.lc_log_side.specs.Resets.{IsSpent}
use Rattle.lc_segments.specs.declared.node_fault.NodeFault.{NodeFault}
use Rattle.lc_segments.specs.declared.node_fault.NodeFault.TheVariants.{Halted, RoundsSpent}

-- why the log may not be truncated at all: it serves no more, or it is in its last round
abbrev pub IsUntruncatable : {D : Type 0} → LogView D → NodeFault → Type 0
IsUntruncatable log fault =
    ((fault ≡ Halted) × (log.is_halted ≡ true)) ⊎ ((fault ≡ RoundsSpent) × (log.is_halted ≡ false) × IsSpent log)

-- an area of a device of this kind has failed
abbrev pub HasFaults : {D : Type 0} → Ghosts D → Type 0
HasFaults {D} a = (area : D) × (0 < a.failures area)

-- Of a node: what keeps a node from serving on.
use Rattle.std.specs.Prelude.{◌≡◌, ℕ, ◌<◌}
use Rattle.lc_disk.specs.declared.area.Area.{Ghosts}
use Rattle.lc_log_side.specs.Halting.{HasFaults}
use Rattle.lc_segments.specs.declared.node_fault.NodeFault.{NodeFault}
use Rattle.lc_segments.specs.declared.node_fault.NodeFault.TheVariants.{Halted}

module _ {D : Type 0} (a : Ghosts D) where
  -- the word is 0 until an area of a device has failed
  abbrev pub IsHalting : ℕ → Type 0
  IsHalting word = 0 < word → HasFaults a

  -- a commit is refused, since one has
  abbrev pub IsHalted : NodeFault → Type 0
  IsHalted fault = (fault ≡ Halted) × HasFaults a

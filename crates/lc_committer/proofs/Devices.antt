-- Which faults are of a device.
use Rattle.std.proofs.Common.{inl, inr}
use Rattle.lc_disk.specs.declared.area.Area.{Ghosts}
use Rattle.lc_node.specs.Flushes.{HasNotFlushed}
use Rattle.lc_log_side.specs.Receipts.{IsOfDevice}
use Rattle.lc_node.specs.declared.node.Node.{Node}
use Rattle.lc_segments.specs.declared.node_fault.NodeFault.{NodeFault}

-- what a flush is refused for is of a device
pub flush_of_device : {D : Type 0} (a : Ghosts D) (node : Node D) (fault : NodeFault) → HasNotFlushed a node fault → IsOfDevice fault
flush_of_device a node fault unflushed = elim unflushed.refused [
  | inl before ↦ inr before.0
  | inr now ↦ inl now.0
]

-- Of a node: what a flush does.
use Rattle.std.specs.Prelude.{ℕ}
use Rattle.lc_disk.specs.declared.area.Area.{Ghosts}
use Rattle.lc_log_side.specs.LogView.{LogView}
use Rattle.lc_node.specs.Logs.{IsLogOf}
use Rattle.lc_log_side.specs.Published.{Publishes}
use Rattle.lc_node.specs.declared.node.Node.{Node}
use Rattle.lc_segments.specs.declared.node_fault.NodeFault.{NodeFault}
use Rattle.lc_log_side.specs.Flushes.{Flushes, IsUnflushed}

-- Who has no lock of the log knows that there was one, as it was and became

module _ {D : Type 0} where
  -- so many records became stable in the node's log
  pub record HasFlushed (node : Node D) (count : ℕ) : Type 0 where
    pub old : LogView D
    pub new : LogView D
    pub own : IsLogOf node old
    pub flushes : Flushes node.stage.room old count new
    pub publishes : Publishes old count new

  -- none did, for this fault
  pub record HasNotFlushed (a : Ghosts D) (node : Node D) (fault : NodeFault) : Type 0 where
    pub old : LogView D
    pub new : LogView D
    pub own : IsLogOf node old
    pub refused : IsUnflushed a old fault new

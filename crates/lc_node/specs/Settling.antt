-- Of a node: how a committer's receipt is looked for in a node's log.
use Rattle.std.specs.Prelude.{Option, Result}
use Rattle.lc_disk.specs.declared.area.Area.{Ghosts}
use Rattle.lc_stage.specs.declared.receipt.Receipt.{Receipt}
use Rattle.lc_stage.specs.declared.stage_view.StageView.{StageView}
use Rattle.lc_log_side.specs.LogView.{IsSameLog, LogView}
use Rattle.lc_node.specs.Logs.{IsLogOf}
use Rattle.lc_node.specs.declared.node.Node.{Node}
use Rattle.lc_segments.specs.declared.node_fault.NodeFault.{NodeFault}
use Rattle.lc_log_side.specs.Settling.{FailsFlush, Looks, Settles, published_end}

module _ {D : Type 0} where
  -- a seat looked for its receipt in a log of this node
  pub record LooksIn (node : Node D) (v : StageView) (found : Option Receipt) (w : StageView) : Type 0 where
    pub log : LogView D
    pub own : IsLogOf node log
    pub new_log : LogView D
    pub same : IsSameLog log new_log
    pub looks : Looks (published_end log) v found w

module _ {D : Type 0} (a : Ghosts D) where
  -- so it was done with a log of this node
  pub record SettlesIn (node : Node D) (v : StageView) (answer : Result (Option Receipt) NodeFault) (w : StageView) : Type 0 where
    pub log : LogView D
    pub own : IsLogOf node log
    pub new_log : LogView D
    pub new_own : IsLogOf node new_log
    pub settles : (Settles a) node.stage.room log v answer w new_log

  -- a flush of a log of this node failed for this reason
  pub record FailsIn (node : Node D) (fault : NodeFault) : Type 0 where
    pub log : LogView D
    pub own : IsLogOf node log
    pub new_log : LogView D
    pub fails : (FailsFlush a) log fault new_log

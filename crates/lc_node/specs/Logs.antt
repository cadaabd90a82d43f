-- The logs of nodes.
use Rattle.lc_stage.specs.Seats.{IsFlusherOf, IsSeatOf}
use Rattle.lc_log_side.specs.LogView.{LogView}
use Rattle.lc_node.specs.declared.node.Node.{Node}

-- the log is of this node: its seats are of the node's stage
abbrev pub IsLogOf : {D : Type 0} → Node D → LogView D → Type 0
IsLogOf node log = IsFlusherOf node.stage log.flusher × IsSeatOf node.stage log.probe

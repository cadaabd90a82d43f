-- What a service did in a round.
use Rattle.std.specs.Prelude.{◌≡◌, ◌≢◌, ◌⊎◌, ℕ, ◌*◌, ◌<◌, ◌≤◌, Some, Result}
use Rattle.lc_disk.specs.declared.area.Area.{Ghosts}
use Rattle.lc_cluster.specs.Calls.{PumpsAt}
use Rattle.lc_cluster.specs.Cluster.{HasNode, node_at}
use Rattle.lc_node.specs.Flushes.{HasFlushed, HasNotFlushed}
use Rattle.lc_cluster.specs.Forgetting.{TrimsAt}
use Rattle.lc_log_side.specs.Receipts.{IsOfDevice}
use Rattle.lc_node.specs.Telling.{TakesWords}
use Rattle.lc_node.specs.Truncates.{HasNotTruncated, HasTruncated}
use Rattle.lc_cluster.specs.declared.cluster.Cluster.{Cluster}
use Rattle.lc_node.specs.declared.node.Node.{Node}
use Rattle.lc_segments.specs.declared.node_fault.NodeFault.{NodeFault}
use Rattle.lc_node.specs.declared.pumped.Pumped.{Pumped}
use Rattle.lc_committer.specs.declared.upkeep.Upkeep.{Upkeep}

-- a log of so many words is to be truncated, of which so many are taken: some are, and at least the percentage that is wanted
abbrev pub IsDue : Upkeep → ℕ → ℕ → Type 0
IsDue upkeep taken words = (0 < taken) × (words * upkeep.truncate_at ≤ taken * 100)

module _ {D : Type 0} (a : Ghosts D) where
  -- the node was truncated, or refused to be
  abbrev pub WasAsked : Node D → Type 0
  WasAsked node = ((round : ℕ) × HasTruncated a node round) ⊎ ((fault : NodeFault) × HasNotTruncated a node fault)

  -- what was closed at the node was made stable; and then the log was truncated, where what was found of it was due
  pub record WasKept (upkeep : Upkeep) (node : Node D) : Type 0 where
    pub count : ℕ
    pub flushed : HasFlushed node count
    pub taken : ℕ
    pub words : TakesWords node taken
    pub emptied : IsDue upkeep taken node.geometry.words → WasAsked node

  -- the node could not flush, or not be truncated, since a device failed
  abbrev pub IsUnkept : Node D → NodeFault → Type 0
  IsUnkept node fault = IsOfDevice fault × (HasNotFlushed a node fault ⊎ HasNotTruncated a node fault)

  -- the node of this number was kept so; of each peer something was gone on with, if there was something; and then it was trimmed
  pub record WasKeptAt (upkeep : Upkeep) (cluster : Cluster D) (number : ℕ) : Type 0 where
    pub node : Node D
    pub at : node_at cluster number ≡ Some node
    pub kept : WasKept upkeep node
    pub pumped : (peer : ℕ) → HasNode cluster peer → peer ≢ number
        → (answer : Result Pumped NodeFault) × PumpsAt cluster number peer answer
    pub count : ℕ
    pub trimmed : TrimsAt cluster number count

  -- the node of this number could not be kept so
  abbrev pub IsUnkeptAt : Cluster D → ℕ → NodeFault → Type 0
  IsUnkeptAt cluster number fault = (node : Node D) × (node_at cluster number ≡ Some node) × IsUnkept node fault

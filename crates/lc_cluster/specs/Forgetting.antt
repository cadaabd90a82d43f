-- Of a cluster: what a cluster forgets: which records all its nodes have applied, as was seen under the locks of their
-- segments.
use Rattle.std.specs.Prelude.{◌≡◌, ℕ, ◌<◌, ◌≤◌, List, Some, slice_get, slice_index}
use Rattle.lc_log_side.specs.LogView.{LogView}
use Rattle.lc_node.specs.Logs.{IsLogOf}
use Rattle.lc_log_side.specs.Trimming.{TrimsLog}
use Rattle.lc_cluster.specs.declared.cluster.Cluster.{Cluster}
use Rattle.lc_cluster.specs.declared.member.Member.{Member}
use Rattle.lc_node.specs.Forgetting.{HasApplied}

module _ {D : Type 0} where
  -- one node had, and each other had applied as many or more
  pub record IsLeastApplied (cluster : Cluster D) (place number : ℕ) : Type 0 where
    pub each : (k : ℕ) (member : Member D) → slice_get cluster.members.items k ≡ Some member → (more : ℕ) × HasApplied member.node place more × (number ≤ more)
    pub at : ℕ
    pub one : Member D
    pub of : slice_get cluster.members.items at ≡ Some one
    pub has : HasApplied one.node place number

  -- so it was with each segment
  abbrev pub AreLeastApplied : Cluster D → List ℕ → Type 0
  AreLeastApplied cluster numbers = (place : ℕ) → place < cluster.geometry.segments → IsLeastApplied cluster place (slice_index numbers place)

  -- the log of the node with this number was trimmed by such numbers, and by those of what was dropped before; so many records went
  pub record TrimsAt (cluster : Cluster D) (number count : ℕ) : Type 0 where
    pub member : Member D
    pub at : slice_get cluster.members.items number ≡ Some member
    pub applied : List ℕ
    pub least : AreLeastApplied cluster applied
    pub old : LogView D
    pub own : IsLogOf member.node old
    pub new : LogView D
    pub dropped : List ℕ
    pub after : List ℕ
    pub trims : TrimsLog applied dropped old count new after

-- What a node of a recovered store is, as it comes up.
use Rattle.std.specs.Prelude.{◌≡◌, ℕ, false, List, Some, length, slice_get}
use Rattle.lc_recover.specs.Recovered.{RecoveredStore}
use Rattle.lc_stage.specs.Seats.{commit_view, IsSeatOf}
use Rattle.lc_stage.specs.Staging.{newcomer}
use Rattle.lc_node.specs.declared.opening.OpenedNode.{OpenedNode}

module _ {D : Type 0} where
  -- its stage has the room of the store's logs, its committer begins, it has each segment, it may have peers, and its geometry is the
  -- store's
  abbrev pub IsOpened : RecoveredStore D → OpenedNode D → Type 0
  IsOpened r made = IsSeatOf made.node.stage made.seat × (commit_view made.seat ≡ newcomer r.geometry.words) × (made.node.stage.room ≡ r.geometry.words) × (length made.node.segments.items ≡ r.geometry.segments) × (made.node.is_alone ≡ false) × (made.node.geometry ≡ r.geometry)

  -- each stands at the place of its number
  abbrev pub StandByNumber : List (OpenedNode D) → Type 0
  StandByNumber nodes = (place : ℕ) (made : OpenedNode D) → slice_get nodes place ≡ Some made → made.node.number ≡ place

-- What contracts see of a committer.
use Rattle.std.specs.Prelude.{◌≡◌, Option, None, Some}
use Rattle.lc_stage.specs.Seats.{commit_view, IsSeatOf, IsIdle}
use Rattle.lc_stage.specs.Staging.{newcomer}
use Rattle.lc_stage.specs.declared.seats.CommitSeat.{CommitSeat}
use Rattle.lc_stage.specs.declared.stage_view.StageView.{StageView}
use Rattle.lc_node.specs.declared.node.Node.{Node}
use Rattle.lc_committer.specs.declared.committer.Committer.TheInside.{Inside}

-- the node on which it commits, and what its seat knows: its records and its receipts
pub record Committing (D : Type 0) : Type 0 where
  pub node : Node D
  pub view : StageView

-- what the seat knows, where it is there
abbrev pub view_in : Option CommitSeat → StageView
view_in None = newcomer 0
view_in (Some seat) = commit_view seat

module _ {D : Type 0} where
  -- both have one stage, as a node and itself
  abbrev pub IsOfSameStage : Node D → Node D → Type 0
  IsOfSameStage one other = other.stage.table.shared.table_id ≡ one.stage.table.shared.table_id

  -- the seat is there, is of the node's stage, and has no open reservation
  abbrev pub Sits : Node D → Option CommitSeat → Type 0
  Sits node None = ⊥
  Sits node (Some seat) = IsSeatOf node.stage seat × IsIdle (commit_view seat)

  abbrev pub committing : Inside D → Committing D
  committing c = record { node = c.node.now; view = view_in c.seat }

  abbrev pub IsSeated : Inside D → Type 0
  IsSeated c = Sits c.node.now c.seat

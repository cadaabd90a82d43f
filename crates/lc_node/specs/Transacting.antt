-- A whole transaction on a running node.
use Rattle.std.specs.Prelude.{◌≡◌, ℕ, List, Bool, true, false, Result, Ok, Err, MatchResult}
use Rattle.lc_disk.specs.declared.area.Area.{Ghosts}
use Rattle.lc_stage.specs.declared.receipt.Receipt.{Receipt}
use Rattle.lc_stage.specs.declared.stage_view.StageView.{StageView}
use Rattle.lc_segments.specs.Ran.{Tells}
use Rattle.lc_segments.specs.declared.node_fault.NodeFault.{NodeFault}
use Rattle.lc_log_side.specs.Receipts.{IsOfDevice, Learns, Receives}
use Rattle.lc_node.specs.Commits.{CommitsAmong}
use Rattle.lc_node.specs.declared.commit_kind.Commit.{Commit}
use Rattle.lc_node.specs.declared.commit_kind.Commit.TheVariants.{Empty, Lazy, Flushed}
use Rattle.lc_node.specs.declared.commit_kind.Mode.{Mode}
use Rattle.lc_node.specs.declared.commit_kind.Mode.TheVariants.{Lazy as NotWaiting, Flush as Waiting}
use Rattle.lc_node.specs.declared.node.Node.{Node}

-- a transaction whose commit is done ends: as that was answered, and where its record is closed and it is to wait, with the
-- receipt of it, or with the fault of the device
abbrev pub EndsClosed : Mode → StageView → StageView → Result Commit NodeFault → Type 0
EndsClosed NotWaiting u w result = (result ≡ Ok Lazy) × (w ≡ u)
EndsClosed Waiting u w result = MatchResult result (λ commit. (receipt : Receipt) × (commit ≡ Flushed receipt) × Receives u receipt w) (λ fault. IsOfDevice fault × Learns u w)

abbrev pub EndsIn : Mode → StageView → Result Bool NodeFault → StageView → Result Commit NodeFault → Type 0
EndsIn mode u (Ok true) w result = EndsClosed mode u w result
EndsIn mode u (Ok false) w result = (result ≡ Ok Empty) × (w ≡ u)
EndsIn mode u (Err fault) w result = (result ≡ Err fault) × (w ≡ u)

-- a seat of the node committed a work on these segments in this mode
pub record Transacts {D W : Type 0} (a : Ghosts D) (node : Node D) (ran : W → W → Tells) (tries : ℕ) (segments : List ℕ) (mode : Mode) (x y : W) (v w : StageView) (result : Result Commit NodeFault) : Type 0 where
  pub between : StageView
  pub done : Result Bool NodeFault
  pub commits : CommitsAmong a node ran tries segments x y v between done
  pub ends : EndsIn mode between done w result

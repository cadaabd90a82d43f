-- Of a log under its lock: where what a cluster leaves is refused, and by which fault.
use Rattle.std.specs.Prelude.{◌≡◌, ◌⊎◌, ◌<◌, ◌≤◌, ◌+◌, ◌*◌, ℕ, true, false, List, All, length}
use Rattle.lc_disk.specs.declared.area.Area.{Ghosts}
use Rattle.lc_record.specs.declared.geometry.Geometry.{Geometry}
use Rattle.lc_stage.specs.Seats.{commit_view}
use Rattle.lc_stage.specs.Staging.{end_of}
use Rattle.lc_stage.specs.declared.stage_view.StageView.{StageView}
use Rattle.lc_rest.specs.declared.cluster_part.ClusterPart.TheVariants.{Seat, Log}
use Rattle.lc_log_side.specs.LeftBy.{AreAllStaged, IsTake}
use Rattle.lc_log_side.specs.LogView.{LogView}
use Rattle.lc_segments.specs.declared.node_fault.NodeFault.{NodeFault}
use Rattle.lc_segments.specs.declared.node_fault.NodeFault.TheVariants.{Mismatch, NoMemory}

-- Logs

module _ {D : Type 0} where
  -- the log serves, but has seen a tail above the end of what a take finds: something is reserved that was not closed
  pub record IsUnclosed (room : ℕ) (log : LogView D) : Type 0 where
    pub serves : log.is_halted ≡ false
    pub taking : StageView
    pub words : List ℕ
    pub take : IsTake room log taking words
    pub tail : ℕ
    pub seen : (commit_view log.probe).seen ≤ tail
    pub above : end_of taking < tail

module _ {D : Type 0} (a : Ghosts D) where
  -- the log has the room of the geometry's logs, with these words after its stable ones
  pub record HasRoom (g : Geometry) (log : LogView D) (words : List ℕ) : Type 0 where
    pub fits : length log.stable + length words ≤ g.words
    pub area : All (λ area. length (a.now area) ≡ 8 * (g.words + 1)) log.area

  -- why the log of this node is refused: a call of its device failed, or it has not the room for all that is staged; something is
  -- reserved that was not closed; or, where nothing else is the matter, there is no memory for what is staged
  abbrev pub StopsLog : Geometry → ℕ → ℕ → LogView D → NodeFault → Type 0
  StopsLog g room node log (Mismatch (Log n)) = (n ≡ node) × ((log.is_halted ≡ true) ⊎ ((words : List ℕ) × AreAllStaged room log words × (HasRoom g log words → ⊥)))
  StopsLog g room node log (Mismatch (Seat n)) = (n ≡ node) × IsUnclosed room log
  StopsLog g room node log NoMemory = (words : List ℕ) × AreAllStaged room log words × HasRoom g log words × (0 < length words)
  StopsLog g room node log other = ⊥

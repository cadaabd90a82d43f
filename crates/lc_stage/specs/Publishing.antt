-- What the flusher may publish.
use Rattle.std.specs.Prelude.{◌≡◌, ℕ, true, List, length}
use Rattle.lc_disk.specs.declared.area.Area.{Ghosts}
use Rattle.lc_record.specs.declared.record.Record.{Record}
use Rattle.lc_log.specs.LogText.{joined}
use Rattle.lc_log.specs.NodeLog.{IsAtRest}
use Rattle.lc_stage.specs.declared.stage_view.StageView.{StageView}
use Rattle.lc_stage.specs.Staging.{end_of}

-- the log ends where what was taken does and, while its area is honest, it is idle with records whose words were taken
abbrev pub HoldsTaken : {D : Type 0} → Ghosts D → D → ℕ → List ℕ → Type 0
HoldsTaken a area end taken = (end ≡ length taken) × (a.honest area ≡ true → (stable : List Record) × IsAtRest (a.now area) (a.dirty area) end stable × (joined stable ≡ taken))

-- the flusher has taken words and published their end, and no more
abbrev pub HasPublished : StageView → StageView → Type 0
HasPublished v w = (w.published ≡ end_of w) × (w.past ≡ v.past) × (w.sealed ≡ v.sealed) × (w.sealed_at ≡ v.sealed_at) × (w.cleared ≡ v.cleared) × (w.ended ≡ v.ended) × (w.ended_cleared ≡ v.ended_cleared) × (w.heard ≡ v.heard)

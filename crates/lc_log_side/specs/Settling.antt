-- Of a log under its lock: how a committer's receipt is looked for in a node's log.
use Rattle.std.specs.Prelude.{◌≡◌, ◌⊎◌, ℕ, true, Option, None, Some, Result, Ok, Err, IsSome}
use Rattle.lc_disk.specs.declared.area.Area.{Ghosts}
use Rattle.lc_stage.specs.Receipts.{IsReceiptOf}
use Rattle.lc_stage.specs.Seats.{flush_view}
use Rattle.lc_stage.specs.Staging.{HasReached, latest, learns_durable, with_receipt}
use Rattle.lc_stage.specs.declared.receipt.Receipt.{Receipt}
use Rattle.lc_stage.specs.declared.stage_view.StageView.{StageView}
use Rattle.lc_log_side.specs.Flushes.{FailsDevice, Flushes}
use Rattle.lc_log_side.specs.LogView.{IsSameLog, LogView}
use Rattle.lc_segments.specs.declared.node_fault.NodeFault.{NodeFault}
use Rattle.lc_segments.specs.declared.node_fault.NodeFault.TheVariants.{DeviceFault, Halted}

-- what a seat is given where this end was published last: a receipt of its last closed record exactly where the end has reached it
abbrev pub Looks : ℕ → StageView → Option Receipt → StageView → Type 0
Looks x v None w = ¬ HasReached x v × (w ≡ learns_durable x v)
Looks x v (Some receipt) w = HasReached x v × IsReceiptOf (latest v.mine) receipt × (w ≡ with_receipt (learns_durable x v))

module _ {D : Type 0} where
  -- the end that the log published last
  abbrev pub published_end : LogView D → ℕ
  published_end log = (flush_view log.flusher).published

module _ {D : Type 0} (a : Ghosts D) where
  -- the device failed before, and nothing has changed, but that the flusher's seat may have stepped; or it failed now
  abbrev pub FailsFlush : LogView D → NodeFault → LogView D → Type 0
  FailsFlush old fault new = ((fault ≡ Halted) × (old.is_halted ≡ true) × IsSameLog old new) ⊎ ((fault ≡ DeviceFault) × FailsDevice a old new)

  -- the receipt is there at once, where the published end had reached its record. Else it is looked for after a flush,
  -- which may fail
  abbrev pub Settles : ℕ → LogView D → StageView → Result (Option Receipt) NodeFault → StageView → LogView D → Type 0
  Settles room old v (Ok found) w new =
      (IsSome found × Looks (published_end old) v found w × IsSameLog old new)
      ⊎ (¬ HasReached (published_end old) v × Looks (published_end new) v found w × ((count : ℕ) × Flushes room old count new))
  Settles room old v (Err fault) w new = ¬ HasReached (published_end old) v × (w ≡ learns_durable (published_end old) v) × FailsFlush old fault new

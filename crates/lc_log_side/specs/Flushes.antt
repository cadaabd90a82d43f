-- Of a log under its lock: what a flush does.
use Rattle.std.specs.Prelude.{◌≡◌, ◌⊎◌, ℕ, ◌+◌, true, false, List, [], ◌∷◌, ◌++◌, length}
use Rattle.lc_disk.specs.declared.area.Area.{Ghosts}
use Rattle.lc_stage.specs.declared.stage_view.StageView.{StageView}
use Rattle.lc_stage.specs.Seats.{flush_view, OnlyTakes, EndsAt, publishing}
use Rattle.lc_log_side.specs.Among.{AreInFront}
use Rattle.lc_log_side.specs.LogView.{LogView}
use Rattle.lc_segments.specs.declared.node_fault.NodeFault.{NodeFault}
use Rattle.lc_segments.specs.declared.node_fault.NodeFault.TheVariants.{DeviceFault, Halted}

module _ {D : Type 0} where
  -- what is closed was taken: so many records, whose words are stable now after those that were, and their end is
  -- published
  pub record Flushes (room : ℕ) (old : LogView D) (count : ℕ) (new : LogView D) : Type 0 where
    pub words : List ℕ
    pub taking : StageView
    pub takes : OnlyTakes (flush_view old.flusher) taking
    pub taken : taking.taken ≡ (flush_view old.flusher).taken ++ words
    pub ends : EndsAt room (flush_view old.flusher) taking
    pub publishes : flush_view new.flusher ≡ publishing taking
    pub stable : new.stable ≡ old.stable ++ words
    pub ended : new.ended ≡ old.ended
    pub gone : new.gone ≡ old.gone
    pub ended_room : new.ended_room ≡ old.ended_room
    pub round : new.round ≡ old.round
    pub known : new.known ≡ old.known
    pub records : AreInFront words (length words) count
    pub serves : new.is_halted ≡ false
    pub nothing : words ≡ [] → new.area ≡ old.area

  -- the device failed: nothing was published, and the stable records are those that were
  pub record FailsDevice (a : Ghosts D) (old new : LogView D) : Type 0 where
    pub served : old.is_halted ≡ false
    pub halted : new.is_halted ≡ true
    pub stable : new.stable ≡ old.stable
    pub ended : new.ended ≡ old.ended
    pub gone : new.gone ≡ old.gone
    pub ended_room : new.ended_room ≡ old.ended_room
    pub takes : OnlyTakes (flush_view old.flusher) (flush_view new.flusher)
    pub before : D
    pub after : D
    pub old_area : old.area ≡ before ∷ []
    pub new_area : new.area ≡ after ∷ []
    pub cause : a.failures after ≡ a.failures before + 1

  -- the device failed before, and nothing has changed; or it failed now
  abbrev pub IsUnflushed : Ghosts D → LogView D → NodeFault → LogView D → Type 0
  IsUnflushed a old fault new = ((fault ≡ Halted) × (old.is_halted ≡ true) × (new ≡ old)) ⊎ ((fault ≡ DeviceFault) × FailsDevice a old new)

-- Of a log under its lock: what the reset of a log does.
use Rattle.std.specs.Prelude.{◌≡◌, ◌≢◌, ◌⊎◌, ℕ, ◌+◌, ◌-◌, ◌*◌, ◌^◌, true, false, [], ◌∷◌, ◌++◌, length}
use Rattle.lc_model.specs.Merge.{IsLeastPair}
use Rattle.lc_stage.specs.Seats.{commit_view, flush_view}
use Rattle.lc_token.specs.KnownClean.{known}
use Rattle.lc_token.specs.Reset.{AreKnown, IsAbove}
use Rattle.lc_log_side.specs.LogView.{LogView}
use Rattle.lc_segments.specs.declared.node_fault.NodeFault.{NodeFault}
use Rattle.lc_segments.specs.declared.node_fault.NodeFault.TheVariants.{Lost, RoundsSpent, Unclean, DeviceFault, Halted}

module _ {D : Type 0} where
  -- the log serves, and has a stable record
  abbrev pub IsReady : LogView D → Type 0
  IsReady old = (old.is_halted ≡ false) × (old.stable ≢ [])

  -- no round comes after that of the log
  abbrev pub IsSpent : LogView D → Type 0
  IsSpent old = old.round + 1 ≡ 2 ^ 48

  -- and a reset may take its records away
  abbrev pub CanReset : LogView D → Type 0
  CanReset old = IsReady old × ¬ IsSpent old × AreKnown old.stable (known old.known)

  -- why it may not
  abbrev pub IsUnfit : LogView D → NodeFault → Type 0
  IsUnfit old fault =
      ((fault ≡ Halted) × (old.is_halted ≡ true))
      ⊎ (((fault ≡ RoundsSpent) × IsReady old × IsSpent old)
      ⊎ ((segment : ℕ) × (seq : ℕ) × (fault ≡ Unclean segment seq) × IsReady old × ¬ IsSpent old × IsLeastPair (IsAbove old.stable (known old.known)) segment seq))

  -- the stable records, the round, what was taken, and the words of the ended rounds and their room are as they were
  abbrev pub IsKept : LogView D → LogView D → Type 0
  IsKept old new = (new.stable ≡ old.stable) × (new.round ≡ old.round) × (new.known ≡ old.known) × ((flush_view new.flusher).past ≡ (flush_view old.flusher).past) × ((flush_view new.flusher).taken ≡ (flush_view old.flusher).taken)
      × (new.ended ≡ old.ended) × (new.ended_room ≡ old.ended_room) × ((flush_view new.flusher).room ≡ (flush_view old.flusher).room) × (new.gone ≡ old.gone)

  -- nothing more is reserved in its round, which ends where its stable records do
  abbrev pub IsSealed : LogView D → Type 0
  IsSealed s = ((flush_view s.flusher).sealed ≡ true) × ((flush_view s.flusher).sealed_at ≡ length s.stable)

  -- it becomes so
  abbrev pub Seals : LogView D → LogView D → Type 0
  Seals old new = IsSealed new × IsKept old new × (new.is_halted ≡ old.is_halted)

  -- another tail was found, which is named, and the log serves on as it was
  abbrev pub IsUnsealed : LogView D → NodeFault → LogView D → Type 0
  IsUnsealed old fault new = (seen : ℕ) × (fault ≡ Lost seen) × (seen ≢ old.round * 65536 + length old.stable)
      × (((commit_view new.probe).seen ≡ seen) ⊎ ((flush_view new.flusher).heard ≡ seen)) × IsKept old new × (new.is_halted ≡ old.is_halted) × (new.area ≡ old.area)

  -- the next round has begun without a record, what was taken stays under the ended one, and the words that were stable
  -- stand after those of the rounds before
  pub record Begins (old : LogView D) (round : ℕ) (new : LogView D) : Type 0 where
    pub none_left : new.stable ≡ []
    pub round_is : round ≡ new.round
    pub next_round : new.round ≡ old.round + 1
    pub serves : new.is_halted ≡ false
    pub past : (flush_view new.flusher).past ≡ (flush_view old.flusher).past ++ (flush_view old.flusher).taken ∷ []
    pub ended : new.ended ≡ old.ended ++ old.stable
    pub gone : new.gone ≡ old.gone
    pub ended_room : new.ended_room ≡ old.ended_room - length old.stable

  -- the device failed
  abbrev pub FailsToBegin : LogView D → NodeFault → LogView D → Type 0
  FailsToBegin old fault new = (fault ≡ DeviceFault) × IsKept old new × (new.is_halted ≡ true)

  -- no stable record is left. Where there were some, each of their locks is known clean, and the next round has begun; where
  -- there was none, nothing has changed
  abbrev pub Empties : LogView D → ℕ → LogView D → Type 0
  Empties old round new =
      (CanReset old × Begins old round new) ⊎ ((old.is_halted ≡ false) × (old.stable ≡ []) × (round ≡ old.round) × (new ≡ old))

  abbrev pub IsUnemptied : LogView D → NodeFault → LogView D → Type 0
  IsUnemptied old fault new =
      (IsUnfit old fault × (new ≡ old))
      ⊎ ((CanReset old × IsUnsealed old fault new) ⊎ (CanReset old × FailsToBegin old fault new))

-- Of a journal: which replies tell of a call, event by event.
use Rattle.std.proofs.Common.{◌≡◌, ℕ, true, false, refl, sym, true≢false}
use Rattle.lc_disk.specs.declared.area.Area.{Ghosts}
use Rattle.lc_log.specs.declared.closing.Closing.{Closing as ClosingLog}
use Rattle.lc_log.specs.declared.idle.Idle.{Idle as IdleLog}
use Rattle.lc_log.specs.declared.opened.Opened.{Opened as OpenedLog}
use Rattle.lc_log.specs.declared.synced.Synced.{Synced as SyncedLog}
use Rattle.lc_log.specs.declared.written.Written.{Written as WrittenLog}
use Rattle.lc_journal.specs.CallReplies.{tells_but, tells_call}
use Rattle.lc_journal.specs.Journal.{reply_of}
use Rattle.lc_journal.specs.Log.{CallsOnce, MovesReset, is_emptied, is_sealed}
use Rattle.lc_journal.specs.declared.log.Log.{Log}
use Rattle.lc_journal.specs.declared.log.Log.TheVariants.{Idle, Written, Synced, Opened, Sealed, Closing, Emptied, Failed, Torn, Taken}

module _ {D : Type 0} (a : Ghosts D) where
  -- a flush that goes on
  pub flush_called : (new : Log D a) (taken : ℕ) → tells_call (reply_of a new taken) ≡ true
  flush_called (Idle log) taken = refl
  flush_called (Written log) taken = refl
  flush_called (Synced log) taken = refl
  flush_called (Opened log) taken = refl
  flush_called (Sealed log) taken = refl
  flush_called (Closing log) taken = refl
  flush_called (Emptied log) taken = refl
  flush_called (Failed log) taken = refl
  flush_called (Torn log) taken = refl
  flush_called Taken taken = refl

  -- a log in which no step of a flush is due, and none of a reset is under way
  pub flush_rests : (log : Log D a) → ((x : IdleLog D a) → log ≡ Idle x → ⊥) → ((x : WrittenLog D a) → log ≡ Written x → ⊥) → ((x : SyncedLog D a) → log ≡ Synced x → ⊥) → ((x : OpenedLog D a) → log ≡ Opened x → ⊥)
      → is_sealed a log ≡ false → CallsOnce a log log
  flush_rests (Idle log) idle written synced opened free = absurd (idle log refl)
  flush_rests (Written log) idle written synced opened free = absurd (written log refl)
  flush_rests (Synced log) idle written synced opened free = absurd (synced log refl)
  flush_rests (Opened log) idle written synced opened free = absurd (opened log refl)
  flush_rests (Sealed log) idle written synced opened free = absurd (true≢false free)
  flush_rests (Closing log) idle written synced opened free = absurd (true≢false free)
  flush_rests (Emptied log) idle written synced opened free = absurd (true≢false free)
  flush_rests (Failed log) idle written synced opened free = refl
  flush_rests (Torn log) idle written synced opened free = refl
  flush_rests Taken idle written synced opened free = refl

  -- none in which a reset is under way, and no call of it is due
  pub reset_rests : (log : Log D a) → ((x : IdleLog D a) → log ≡ Sealed x → ⊥) → ((x : ClosingLog D a) → log ≡ Closing x → ⊥) → is_sealed a log ≡ true → is_emptied a log ≡ false → ⊥
  reset_rests (Sealed log) sealed closing under full = absurd (sealed log refl)
  reset_rests (Closing log) sealed closing under full = absurd (closing log refl)
  reset_rests (Emptied log) sealed closing under full = absurd (true≢false full)
  reset_rests (Idle log) sealed closing under full = absurd (true≢false (sym under))
  reset_rests (Written log) sealed closing under full = absurd (true≢false (sym under))
  reset_rests (Synced log) sealed closing under full = absurd (true≢false (sym under))
  reset_rests (Opened log) sealed closing under full = absurd (true≢false (sym under))
  reset_rests (Failed log) sealed closing under full = absurd (true≢false (sym under))
  reset_rests (Torn log) sealed closing under full = absurd (true≢false (sym under))
  reset_rests Taken sealed closing under full = absurd (true≢false (sym under))

  -- a reset after its first step
  pub reset_called : (old new : Log D a) (taken : ℕ) → is_sealed a old ≡ true → is_emptied a old ≡ false → MovesReset a old new → tells_but 1 (reply_of a new taken) ≡ true
  reset_called (Sealed log) (Idle now) taken sealed full moves = absurd moves
  reset_called (Sealed log) (Written now) taken sealed full moves = absurd moves
  reset_called (Sealed log) (Synced now) taken sealed full moves = absurd moves
  reset_called (Sealed log) (Opened now) taken sealed full moves = absurd moves
  reset_called (Sealed log) (Sealed now) taken sealed full moves = absurd cc
  reset_called (Sealed log) (Closing now) taken sealed full moves = refl
  reset_called (Sealed log) (Emptied now) taken sealed full moves = refl
  reset_called (Sealed log) (Failed now) taken sealed full moves = absurd moves
  reset_called (Sealed log) (Torn now) taken sealed full moves = refl
  reset_called (Sealed log) Taken taken sealed full moves = absurd moves
  reset_called (Closing log) (Idle now) taken sealed full moves = absurd moves
  reset_called (Closing log) (Written now) taken sealed full moves = absurd moves
  reset_called (Closing log) (Synced now) taken sealed full moves = absurd moves
  reset_called (Closing log) (Opened now) taken sealed full moves = absurd moves
  reset_called (Closing log) (Sealed now) taken sealed full moves = absurd cc
  reset_called (Closing log) (Closing now) taken sealed full moves = refl
  reset_called (Closing log) (Emptied now) taken sealed full moves = refl
  reset_called (Closing log) (Failed now) taken sealed full moves = absurd moves
  reset_called (Closing log) (Torn now) taken sealed full moves = refl
  reset_called (Closing log) Taken taken sealed full moves = absurd moves
  reset_called (Emptied log) new taken sealed full moves = absurd (true≢false full)
  reset_called (Idle log) new taken sealed full moves = absurd (true≢false (sym sealed))
  reset_called (Written log) new taken sealed full moves = absurd (true≢false (sym sealed))
  reset_called (Synced log) new taken sealed full moves = absurd (true≢false (sym sealed))
  reset_called (Opened log) new taken sealed full moves = absurd (true≢false (sym sealed))
  reset_called (Failed log) new taken sealed full moves = absurd (true≢false (sym sealed))
  reset_called (Torn log) new taken sealed full moves = absurd (true≢false (sym sealed))
  reset_called Taken new taken sealed full moves = absurd (true≢false (sym sealed))

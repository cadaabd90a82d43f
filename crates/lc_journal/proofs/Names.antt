-- Of a journal: which replies an event may get at all, kind by kind.
use Rattle.std.proofs.Common.{◌≡◌, ℕ, Bool, true, false, refl, sym, true≢false}
use Rattle.lc_disk.specs.declared.area.Area.{Ghosts}
use Rattle.lc_log.specs.declared.idle.Idle.{Idle as IdleLog}
use Rattle.lc_model.specs.Machine.{may_reset}
use Rattle.lc_model.specs.declared.refusal.Refusal.TheVariants.{DeviceFault}
use Rattle.lc_model.specs.declared.reply.Reply.{Reply}
use Rattle.lc_model.specs.declared.reply.Reply.TheVariants.{Refused}
use Rattle.lc_journal.specs.Journal.{reply_of}
use Rattle.lc_journal.specs.Log.{MovesReset, is_emptied, is_sealed}
use Rattle.lc_journal.specs.MayReply.{may_flush, or_fault}
use Rattle.lc_journal.specs.declared.log.Log.{Log}
use Rattle.lc_journal.specs.declared.log.Log.TheVariants.{Idle, Written, Synced, Opened, Sealed, Closing, Emptied, Failed, Torn, Taken}

-- What a log answers

module _ {D : Type 0} (a : Ghosts D) where
  -- a reset that is under way leaves no log in which nothing is
  not_idle : (old : Log D a) (new : IdleLog D a) → is_sealed a old ≡ true → is_emptied a old ≡ false → MovesReset a old (Idle new) → ⊥
  not_idle (Sealed log) new sealed full moves = moves
  not_idle (Closing log) new sealed full moves = moves
  not_idle (Emptied log) new sealed full moves = true≢false full
  not_idle (Idle log) new sealed full moves = true≢false (sym sealed)
  not_idle (Written log) new sealed full moves = true≢false (sym sealed)
  not_idle (Synced log) new sealed full moves = true≢false (sym sealed)
  not_idle (Opened log) new sealed full moves = true≢false (sym sealed)
  not_idle (Failed log) new sealed full moves = true≢false (sym sealed)
  not_idle (Torn log) new sealed full moves = true≢false (sym sealed)
  not_idle Taken new sealed full moves = true≢false (sym sealed)

  pub of_flush : (new : Log D a) (taken : ℕ) → or_fault may_flush (reply_of a new taken) ≡ true
  of_flush (Idle log) taken = refl
  of_flush (Written log) taken = refl
  of_flush (Synced log) taken = refl
  of_flush (Opened log) taken = refl
  of_flush (Sealed log) taken = refl
  of_flush (Closing log) taken = refl
  of_flush (Emptied log) taken = refl
  of_flush (Failed log) taken = refl
  of_flush (Torn log) taken = refl
  of_flush Taken taken = refl

  pub of_reset : (old new : Log D a) (taken : ℕ) → is_sealed a old ≡ true → is_emptied a old ≡ false → MovesReset a old new → or_fault may_reset (reply_of a new taken) ≡ true
  of_reset old (Idle log) taken sealed full moves = absurd (not_idle old log sealed full moves)
  of_reset old (Written log) taken sealed full moves = refl
  of_reset old (Synced log) taken sealed full moves = refl
  of_reset old (Opened log) taken sealed full moves = refl
  of_reset old (Sealed log) taken sealed full moves = refl
  of_reset old (Closing log) taken sealed full moves = refl
  of_reset old (Emptied log) taken sealed full moves = refl
  of_reset old (Failed log) taken sealed full moves = refl
  of_reset old (Torn log) taken sealed full moves = refl
  of_reset old Taken taken sealed full moves = refl

-- at a device that may fail it may answer as well what it may answer else
pub or_more : (may : Reply → Bool) (reply : Reply) → may reply ≡ true → or_fault may reply ≡ true
or_more may (Refused DeviceFault) is = refl
or_more may reply is = is

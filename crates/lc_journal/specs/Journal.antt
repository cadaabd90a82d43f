-- A node's log and its records, against those of the machine's history.
use Rattle.std.specs.Prelude.{◌≡◌, ℕ, ◌≤◌, map, drop, take}
use Rattle.std.specs.List.{AllByRecursion}
use Rattle.lc_disk.specs.declared.area.Area.{Ghosts}
use Rattle.lc_record.specs.Record.{spelling}
use Rattle.lc_log.specs.LogText.{IsWhole}
use Rattle.lc_model.specs.History.{entries_of, front}
use Rattle.lc_model.specs.State.{Setting, State}
use Rattle.lc_model.specs.Stored.{records_of}
use Rattle.lc_model.specs.declared.refusal.Refusal.TheVariants.{DeviceFault}
use Rattle.lc_model.specs.declared.reply.Reply.{Reply}
use Rattle.lc_model.specs.declared.reply.Reply.TheVariants.{Stepped, Acked, Refused}
use Rattle.lc_settled.specs.Numbers.{Numbers}
use Rattle.lc_journal.specs.Records.{KeptRecords, marks_of}
use Rattle.lc_journal.specs.declared.log.Log.{Log}
use Rattle.lc_journal.specs.declared.log.Log.TheVariants.{Idle, Written, Synced, Opened, Sealed, Closing, Emptied, Failed, Torn, Taken}
use Rattle.lc_journal.specs.Log.{Stands, HasReset, is_failed}

module _ {D : Type 0} (a : Ghosts D) where
  abbrev pub reply_of : Log D a → ℕ → Reply
  reply_of (Idle log) taken = Acked taken
  reply_of (Written log) taken = Stepped 1
  reply_of (Synced log) taken = Stepped 2
  reply_of (Opened log) taken = Stepped 3
  reply_of (Sealed log) taken = Stepped 1
  reply_of (Closing log) taken = Stepped 2
  reply_of (Emptied log) taken = Stepped 3
  reply_of (Failed log) taken = Refused DeviceFault
  reply_of (Torn log) taken = Refused DeviceFault
  reply_of Taken taken = Refused DeviceFault

  abbrev pub acked_after : Log D a → ℕ → ℕ → ℕ
  acked_after (Idle log) taken acked = taken
  acked_after (Written log) taken acked = acked
  acked_after (Synced log) taken acked = acked
  acked_after (Opened log) taken acked = acked
  acked_after (Sealed log) taken acked = acked
  acked_after (Closing log) taken acked = acked
  acked_after (Emptied log) taken acked = acked
  acked_after (Failed log) taken acked = acked
  acked_after (Torn log) taken acked = acked
  acked_after Taken taken acked = acked

  -- the words that are kept are the node's records after those that were dropped; of these the log has what is
  -- acknowledged, and the group under way is what a flush took after that
  pub record FitsLog (m : Setting) (node : ℕ) (log : Log D a) (kept : KeptRecords) (dropped trimmed taken acked : ℕ) (s : State) (x : Numbers) : Type 0 where
    pub words : map (λ r. r.words) kept.records ≡ map spelling (drop kept.before (records_of m s x.disks node))
    pub marks : marks_of kept.records ≡ drop kept.before (map (λ e. e.closed) (entries_of node s.history))
    pub all_closed : kept.before ≤ front node s.history
    pub whole : AllByRecursion IsWhole (records_of m s x.disks node)
    pub stands : Stands a log (s.flush node).steps
        (drop dropped (take acked (records_of m s x.disks node)))
        (drop acked (take taken (records_of m s x.disks node)))
    pub halted : s.halted node ≡ is_failed a log
    pub dropped_is : dropped ≡ x.disks.dropped node
    pub trimmed_is : trimmed ≡ x.trimmed node
    pub acked_is : acked ≡ s.ack node
    pub taken_is : (s.flush node).taken ≡ taken
    pub reset_is : HasReset a log (x.reset node)

-- What a node's log holds.
use Rattle.std.specs.Prelude.{◌≡◌, ◌⊎◌, ℕ, ◌+◌, ◌*◌, ◌≤◌, ◌<◌, ◌^◌, Bool, true, false, List, [], ◌∷◌, ◌++◌, length, vec_capacity, All}
use Rattle.std.specs.List.{concat}
use Rattle.lc_disk.specs.declared.area.Area.{Ghosts}
use Rattle.lc_log.specs.LogText.{IsLogText, joined}
use Rattle.lc_log.specs.NodeLog.{EachImage, IsWithOrWithout}
use Rattle.lc_record.specs.declared.record.Record.{Record}
use Rattle.lc_stage.specs.Publishing.{HoldsTaken}
use Rattle.lc_stage.specs.Staging.{AreRecords}
use Rattle.lc_stage.specs.Seats.{flush_view, commit_view, IsIdle}
use Rattle.lc_token.specs.KnownClean.{known}
use Rattle.lc_token.specs.Reset.{AreKnown}
use Rattle.lc_log_side.specs.Left.{IsLeft}
use Rattle.lc_log_side.specs.LogView.{LogView}
use Rattle.lc_log_side.specs.Published.{records_of}
use Rattle.lc_log_side.specs.declared.log_state.LogState.{LogState}
use Rattle.lc_log_side.specs.declared.log_state.LogState.TheVariants.{Idle, Stopped, Halted, Taken}
use Rattle.lc_log_side.specs.declared.log_side.LogSide.TheInside.{Inside}

module _ {D : Type 0} (a : Ghosts D) where
  abbrev pub area_of : LogState D a → List D
  area_of (Idle log) = log.area ∷ []
  area_of (Stopped log) = log.area ∷ []
  area_of (Halted failed) = failed.area ∷ []
  area_of Taken = []

  abbrev pub is_halted : LogState D a → Bool
  is_halted (Idle log) = false
  is_halted (Stopped log) = true
  is_halted (Halted failed) = true
  is_halted Taken = true

  abbrev pub log_view : Inside D a → LogView D
  log_view s = record { flusher = s.flusher; probe = s.probe; area = area_of s.log; is_halted = is_halted s.log; stable = s.stable.items; ended = s.ended.words; gone = s.ended.gone; ended_room = s.ended.room; round = s.round; known = s.known }

  -- a stop leaves none of the records whose words these are, or all of them, or all and a whole group after them
  abbrev pub LeavesRecords : D → List ℕ → Type 0
  LeavesRecords area stable = a.honest area ≡ true → (records : List Record) × (group : List Record) × (joined records ≡ stable)
      × EachImage (a.now area) (a.dirty area) (λ words. IsLogText words [] ⊎ IsWithOrWithout records group words)

  -- the stable words are all that was taken in this round, and the log holds them; once a call of it failed they are the front of
  -- that, and a stop leaves no other records
  abbrev pub HasStable : LogState D a → ℕ → List ℕ → List ℕ → Type 0
  HasStable (Idle log) room taken stable = (stable ≡ taken) × HoldsTaken a log.area log.end taken × (8 * room + 8 ≤ length (a.now log.area))
  HasStable (Stopped log) room taken stable = (stable ≡ taken) × HoldsTaken a log.area log.end taken × (8 * room + 8 ≤ length (a.now log.area))
  HasStable (Halted failed) room taken stable = ((rest : List ℕ) × (taken ≡ stable ++ rest)) × LeavesRecords failed.area stable
  HasStable Taken room taken stable = ⊥

  pub record IsLogSide (s : Inside D a) : Type 0 where
    pub one_table : s.probe.seat.table_id ≡ s.flusher.seat.table_id
    pub idle_probe : IsIdle (commit_view s.probe)
    pub group_room : s.group.room ≡ (flush_view s.flusher).room
    pub stable_room : (flush_view s.flusher).room ≤ vec_capacity s.stable
    pub at_round : s.round ≡ length (flush_view s.flusher).past
    pub few_rounds : s.round < 2 ^ 48
    -- the row of the next round is clear, and nothing of this one is cleared
    pub clear : (flush_view s.flusher).ended_cleared ≡ (flush_view s.flusher).ended
    pub uncleared : (flush_view s.flusher).cleared ≡ 0
    pub records : AreRecords s.stable.items
    pub published : (flush_view s.flusher).published ≤ s.round * 65536 + length s.stable.items
    pub holds : HasStable s.log (flush_view s.flusher).room (flush_view s.flusher).taken s.stable.items
    -- what is left of the words that were taken in the rounds that have ended; each round's are whole records
    pub left : IsLeft (flush_view s.flusher).past s.known s.ended.gone s.ended.words
    pub small : s.ended.gone + length s.ended.words ≤ s.round * 65536
    pub past_records : All AreRecords (flush_view s.flusher).past
    -- how many are published
    pub counted : s.count ≡ length (records_of (concat (flush_view s.flusher).past ++ s.stable.items))
    -- each lock of a record that was taken in a round that has ended is known clean
    pub clean : All (λ words. AreKnown words (known s.known)) (flush_view s.flusher).past

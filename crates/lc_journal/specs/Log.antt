-- A node's log between two steps, and what a step makes of it.
use Rattle.std.specs.Prelude.{◌≡◌, ⊤, ◌⊎◌, ℕ, ◌+◌, ◌*◌, ◌<◌, ◌≤◌, Bool, true, false, List, [], ◌++◌, length, Option, Some, None, not}
use Rattle.lc_disk.specs.declared.area.Area.{Ghosts}
use Rattle.lc_record.specs.declared.record.Record.{Record}
use Rattle.lc_log.specs.LogText.{IsLogText}
use Rattle.lc_log.specs.NodeLog.{IsIdle, IsWritten, IsSynced, IsOpened, IsClosing, IsGroup, IsWithOrWithout, LeavesOnly}
use Rattle.lc_log.specs.OneCall.{IsOneCall}
use Rattle.lc_journal.specs.declared.log.Log.{Log}
use Rattle.lc_journal.specs.declared.log.Log.TheVariants.{Idle, Written, Synced, Opened, Sealed, Closing, Emptied, Failed, Torn, Taken}

-- the words are the text of the stable records, or, where so many steps of a flush, with the one that failed, reach the one
-- that opens the gate, of these and the whole group
abbrev pub IsLeft : ℕ → List Record → List Record → List ℕ → Type 0
IsLeft steps stable group words = IsLogText words stable ⊎ ((3 ≤ steps) × IsLogText words (stable ++ group))

module _ {D : Type 0} (a : Ghosts D) where
  -- so many steps of a flush are done: the records are stable, and the group is on its way; of a log that is being reset
  -- the records are those that it had
  abbrev pub Stands : Log D a → ℕ → List Record → List Record → Type 0
  Stands (Idle log) steps stable group = (steps ≡ 0) × (group ≡ []) × IsIdle a log.area log.end stable
  Stands (Written log) steps stable group = (steps ≡ 1) × IsWritten a log.area log.end log.words stable group
  Stands (Synced log) steps stable group = (steps ≡ 2) × IsSynced a log.area log.end log.words stable group
  Stands (Opened log) steps stable group = (steps ≡ 3) × IsOpened a log.area log.end log.words stable group
  Stands (Sealed log) steps stable group = (steps ≡ 0) × (group ≡ []) × IsIdle a log.area log.end stable
  Stands (Closing log) steps stable group = (steps ≡ 0) × (group ≡ []) × IsClosing a log.area stable
  Stands (Emptied log) steps stable group = (steps ≡ 0) × (group ≡ []) × IsIdle a log.area log.end []
  Stands (Failed log) steps stable group = LeavesOnly a log.area (IsLeft steps stable group)
  Stands (Torn log) steps stable group = (steps ≡ 0) × (group ≡ []) × LeavesOnly a log.area (IsWithOrWithout [] stable)
  Stands Taken steps stable group = ⊥

  abbrev pub is_idle : Log D a → Bool
  is_idle (Idle log) = true
  is_idle (Written log) = false
  is_idle (Synced log) = false
  is_idle (Opened log) = false
  is_idle (Sealed log) = false
  is_idle (Closing log) = false
  is_idle (Emptied log) = false
  is_idle (Failed log) = false
  is_idle (Torn log) = false
  is_idle Taken = false

  -- a reset is under way
  abbrev pub is_sealed : Log D a → Bool
  is_sealed (Idle log) = false
  is_sealed (Written log) = false
  is_sealed (Synced log) = false
  is_sealed (Opened log) = false
  is_sealed (Sealed log) = true
  is_sealed (Closing log) = true
  is_sealed (Emptied log) = true
  is_sealed (Failed log) = false
  is_sealed (Torn log) = false
  is_sealed Taken = false

  -- a reset has emptied it
  abbrev pub is_emptied : Log D a → Bool
  is_emptied (Idle log) = false
  is_emptied (Written log) = false
  is_emptied (Synced log) = false
  is_emptied (Opened log) = false
  is_emptied (Sealed log) = false
  is_emptied (Closing log) = false
  is_emptied (Emptied log) = true
  is_emptied (Failed log) = false
  is_emptied (Torn log) = false
  is_emptied Taken = false

  -- how many steps of a reset are done
  abbrev pub HasReset : Log D a → ℕ → Type 0
  HasReset (Idle log) steps = steps ≡ 0
  HasReset (Written log) steps = steps ≡ 0
  HasReset (Synced log) steps = steps ≡ 0
  HasReset (Opened log) steps = steps ≡ 0
  HasReset (Sealed log) steps = steps ≡ 1
  HasReset (Closing log) steps = steps ≡ 2
  HasReset (Emptied log) steps = steps ≡ 3
  HasReset (Failed log) steps = steps ≡ 0
  HasReset (Torn log) steps = 0 < steps
  HasReset Taken steps = ⊥

  abbrev pub is_failed : Log D a → Bool
  is_failed (Idle log) = false
  is_failed (Written log) = false
  is_failed (Synced log) = false
  is_failed (Opened log) = false
  is_failed (Sealed log) = false
  is_failed (Closing log) = false
  is_failed (Emptied log) = false
  is_failed (Failed log) = true
  is_failed (Torn log) = true
  is_failed Taken = true

  abbrev pub area_of : Log D a → Option D
  area_of (Idle log) = Some log.area
  area_of (Written log) = Some log.area
  area_of (Synced log) = Some log.area
  area_of (Opened log) = Some log.area
  area_of (Sealed log) = Some log.area
  area_of (Closing log) = Some log.area
  area_of (Emptied log) = Some log.area
  area_of (Failed log) = Some log.area
  area_of (Torn log) = Some log.area
  area_of Taken = None

  -- one call of the device: it is made, or has failed in its place
  abbrev pub StepsTo : Log D a → List ℕ → Log D a → Type 0
  StepsTo (Idle log) words new =
      (stable records : List Record) → IsIdle a log.area log.end stable → IsGroup words records → Stands new 1 stable records
  StepsTo (Written log) words new = (stable group : List Record) → IsWritten a log.area log.end log.words stable group → Stands new 2 stable group
  StepsTo (Synced log) words new = (stable group : List Record) → IsSynced a log.area log.end log.words stable group → Stands new 3 stable group
  StepsTo (Opened log) words new =
      (stable group : List Record) → IsOpened a log.area log.end log.words stable group
      → ((is_idle new ≡ true) × Stands new 0 (stable ++ group) []) ⊎ ((is_failed new ≡ true) × Stands new 4 stable group)
  StepsTo (Sealed log) words new = new ≡ Sealed log
  StepsTo (Closing log) words new = new ≡ Closing log
  StepsTo (Emptied log) words new = new ≡ Emptied log
  StepsTo (Failed log) words new = new ≡ Failed log
  StepsTo (Torn log) words new = new ≡ Torn log
  StepsTo Taken words new = new ≡ Taken

  -- of a reset the same: of the records none is left at its end, and a fault leaves all or none
  abbrev pub ResetsTo : Log D a → Log D a → Type 0
  ResetsTo (Idle log) new = new ≡ Idle log
  ResetsTo (Written log) new = new ≡ Written log
  ResetsTo (Synced log) new = new ≡ Synced log
  ResetsTo (Opened log) new = new ≡ Opened log
  ResetsTo (Sealed log) new = (stable : List Record) → IsIdle a log.area log.end stable → Stands new 0 stable []
  ResetsTo (Closing log) new = (stable : List Record) → IsClosing a log.area stable → Stands new 0 stable []
  ResetsTo (Emptied log) new = new ≡ Emptied log
  ResetsTo (Failed log) new = new ≡ Failed log
  ResetsTo (Torn log) new = new ≡ Torn log
  ResetsTo Taken new = new ≡ Taken

  -- the end of the stable records, in words; while a reset is under way it is not asked for, and at its end nothing is left
  abbrev pub end_of : Log D a → ℕ
  end_of (Idle log) = log.end
  end_of (Written log) = log.end
  end_of (Synced log) = log.end
  end_of (Opened log) = log.end
  end_of (Sealed log) = 0
  end_of (Closing log) = 0
  end_of (Emptied log) = log.end
  end_of (Failed log) = 0
  end_of (Torn log) = 0
  end_of Taken = 0

  -- the words of the group that is under way
  abbrev pub under_way : Log D a → ℕ
  under_way (Idle log) = 0
  under_way (Written log) = log.words
  under_way (Synced log) = log.words
  under_way (Opened log) = log.words
  under_way (Sealed log) = 0
  under_way (Closing log) = 0
  under_way (Emptied log) = 0
  under_way (Failed log) = 0
  under_way (Torn log) = 0
  under_way Taken = 0

  -- the bytes of its area
  abbrev pub size : Log D a → ℕ
  size (Idle log) = length (a.now log.area)
  size (Written log) = length (a.now log.area)
  size (Synced log) = length (a.now log.area)
  size (Opened log) = length (a.now log.area)
  size (Sealed log) = length (a.now log.area)
  size (Closing log) = length (a.now log.area)
  size (Emptied log) = length (a.now log.area)
  size (Failed log) = length (a.now log.area)
  size (Torn log) = length (a.now log.area)
  size Taken = 0

  -- so many words fit after what the log has and is about to have
  abbrev pub HasRoom : Log D a → ℕ → Type 0
  HasRoom log words = is_failed log ≡ false → 8 * (end_of log + under_way log + words) + 8 ≤ size log

  -- of the words that wait, how many the next step takes
  abbrev pub taken_by : Log D a → ℕ → ℕ
  taken_by (Idle log) words = words
  taken_by (Written log) words = 0
  taken_by (Synced log) words = 0
  taken_by (Opened log) words = 0
  taken_by (Sealed log) words = 0
  taken_by (Closing log) words = 0
  taken_by (Emptied log) words = 0
  taken_by (Failed log) words = 0
  taken_by (Torn log) words = 0
  taken_by Taken words = 0

  abbrev pub KeepsRoom : Log D a → ℕ → Log D a → Type 0
  KeepsRoom old words new = (more : ℕ) → HasRoom old (taken_by old words + more) → HasRoom new more

  -- how many steps of a flush are done
  abbrev pub steps_of : Log D a → ℕ
  steps_of (Idle log) = 0
  steps_of (Written log) = 1
  steps_of (Synced log) = 2
  steps_of (Opened log) = 3
  steps_of (Sealed log) = 0
  steps_of (Closing log) = 0
  steps_of (Emptied log) = 0
  steps_of (Failed log) = 0
  steps_of (Torn log) = 0
  steps_of Taken = 0

  -- so many steps are done then, and there the records and the group end
  abbrev pub Comes : Log D a → ℕ → ℕ → ℕ → Type 0
  Comes new steps end words = is_failed new ≡ false → (steps_of new ≡ steps) × (end_of new ≡ end) × (under_way new ≡ words) × (is_sealed new ≡ false)

  -- the first step takes a group of so many words under way, and the last puts it after the records
  abbrev pub MovesOn : Log D a → ℕ → Log D a → Type 0
  MovesOn (Idle log) words new = Comes new 1 log.end words
  MovesOn (Written log) words new = Comes new 2 log.end log.words
  MovesOn (Synced log) words new = Comes new 3 log.end log.words
  MovesOn (Opened log) words new = Comes new 0 (log.end + log.words) 0
  MovesOn (Sealed log) words new = new ≡ Sealed log
  MovesOn (Closing log) words new = new ≡ Closing log
  MovesOn (Emptied log) words new = new ≡ Emptied log
  MovesOn (Failed log) words new = new ≡ Failed log
  MovesOn (Torn log) words new = new ≡ Torn log
  MovesOn Taken words new = new ≡ Taken

  -- so many steps of a reset are done then, or a fault has come in its place
  abbrev pub ComesToReset : Log D a → ℕ → Type 0
  ComesToReset (Idle log) steps = ⊥
  ComesToReset (Written log) steps = ⊥
  ComesToReset (Synced log) steps = ⊥
  ComesToReset (Opened log) steps = ⊥
  ComesToReset (Sealed log) steps = steps ≡ 1
  ComesToReset (Closing log) steps = steps ≡ 2
  ComesToReset (Emptied log) steps = (steps ≡ 3) × (log.end ≡ 0)
  ComesToReset (Failed log) steps = ⊥
  ComesToReset (Torn log) steps = ⊤
  ComesToReset Taken steps = ⊥

  abbrev pub MovesReset : Log D a → Log D a → Type 0
  MovesReset (Idle log) new = new ≡ Idle log
  MovesReset (Written log) new = new ≡ Written log
  MovesReset (Synced log) new = new ≡ Synced log
  MovesReset (Opened log) new = new ≡ Opened log
  MovesReset (Sealed log) new = ComesToReset new 2
  MovesReset (Closing log) new = ComesToReset new 3
  MovesReset (Emptied log) new = new ≡ Emptied log
  MovesReset (Failed log) new = new ≡ Failed log
  MovesReset (Torn log) new = new ≡ Torn log
  MovesReset Taken new = new ≡ Taken

  -- the device of a log that had this area, after one call: it has failed once more just where the log has
  pub record IsCalled (area : D) (new : Log D a) : Type 0 where
    pub after : D
    pub there : area_of new ≡ Some after
    pub device : IsOneCall a (not (is_failed new)) area after

  -- at most one call is made
  abbrev pub CallsOnce : Log D a → Log D a → Type 0
  CallsOnce (Idle log) new = IsCalled log.area new
  CallsOnce (Written log) new = IsCalled log.area new
  CallsOnce (Synced log) new = IsCalled log.area new
  CallsOnce (Opened log) new = IsCalled log.area new
  CallsOnce (Sealed log) new = IsCalled log.area new
  CallsOnce (Closing log) new = IsCalled log.area new
  CallsOnce (Emptied log) new = IsCalled log.area new
  CallsOnce (Failed log) new = new ≡ Failed log
  CallsOnce (Torn log) new = new ≡ Torn log
  CallsOnce Taken new = new ≡ Taken

  -- the first step of a reset: what stands in the log is left as it is
  pub record Seals (old new : Log D a) : Type 0 where
    pub stands : (steps : ℕ) (stable group : List Record) → Stands old steps stable group → Stands new steps stable group
    pub reset : HasReset new 1
    pub sealed : is_sealed new ≡ true
    pub works : is_failed new ≡ false
    pub end : end_of new ≡ 0
    pub size : size new ≡ size old
    pub area : area_of new ≡ area_of old

  -- the last: the log is at rest, with no record
  pub record Unseals (old new : Log D a) : Type 0 where
    pub stands : (steps : ℕ) (stable group : List Record) → Stands old steps stable group → (group ≡ []) × Stands new steps [] []
    pub reset : HasReset new 0
    pub idle : is_idle new ≡ true
    pub free : is_sealed new ≡ false
    pub works : is_failed new ≡ false
    pub end : end_of new ≡ end_of old
    pub size : size new ≡ size old
    pub area : area_of new ≡ area_of old

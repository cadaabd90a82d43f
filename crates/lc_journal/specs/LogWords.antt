-- Of a journal: what is shown of the log of a node, and what stays as it was.
use Rattle.std.specs.Prelude.{◌≡◌, ℕ, ◌+◌, Bool, true, false, List, length, Some, Result, Ok, Err, if◌then◌else◌}
use Rattle.lc_disk.specs.declared.area.Area.{Ghosts}
use Rattle.lc_record.specs.declared.record.Record.{Record}
use Rattle.lc_journal.specs.FaultReplies.{kind_of}
use Rattle.lc_journal.specs.Log.{Stands, HasReset, area_of, end_of, is_failed, is_idle, is_sealed, size, under_way}
use Rattle.lc_journal.specs.declared.log.Log.{Log}
use Rattle.lc_journal.specs.declared.show_fault.ShowFault.{ShowFault}
use Rattle.lc_journal.specs.declared.show_fault.ShowFault.TheVariants.{Unknown, DeviceFault, NoMemory}

-- the device failed
abbrev pub has_failed : {A : Type 0} → Result A ShowFault → Bool
has_failed (Ok shown) = false
has_failed (Err Unknown) = false
has_failed (Err DeviceFault) = true
has_failed (Err NoMemory) = false

module _ {D : Type 0} (a : Ghosts D) where
  -- an area was read, which failed or not: it reads as before
  pub record IsRead (old new : D) (failed : Bool) : Type 0 where
    pub honest : a.honest new ≡ a.honest old
    pub same_length : length (a.now new) ≡ length (a.now old)
    pub same : a.honest old ≡ true → a.now new ≡ a.now old
    pub same_dirty : a.honest old ≡ true → (k : ℕ) → a.dirty new k ≡ a.dirty old k
    pub counted : a.failures new ≡ (if failed then a.failures old + 1 else a.failures old)

  -- it stands as before
  pub record StandsOn (old new : Log D a) : Type 0 where
    pub stands : (steps : ℕ) (stable group : List Record) → Stands a old steps stable group → Stands a new steps stable group
    pub failed : is_failed a new ≡ is_failed a old
    pub idle : is_idle a new ≡ is_idle a old
    pub sealed : is_sealed a new ≡ is_sealed a old
    pub reset : (steps : ℕ) → HasReset a old steps → HasReset a new steps
    pub end : end_of a new ≡ end_of a old
    pub under_way : under_way a new ≡ under_way a old
    pub size : size a new ≡ size a old
    pub kind : kind_of a new ≡ kind_of a old

  -- the area of a log was read
  pub record IsLogRead (area : D) (old new : Log D a) (failed : Bool) : Type 0 where
    pub next : D
    pub there : area_of a new ≡ Some next
    pub read : IsRead area next failed

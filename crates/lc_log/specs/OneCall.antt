-- What one call of a device leaves of an area. A write that changed some byte, with a sync after it, leaves none of it.
use Rattle.std.specs.Prelude.{◌≡◌, ◌⊎◌, ℕ, ◌+◌, Bool, true, false, List, length, if◌then◌else◌}
use Rattle.lc_disk.specs.Area.{BecomeDirty, IsClean, IsSameOutside, overlaid}
use Rattle.lc_disk.specs.declared.area.Area.{Ghosts}

module _ {D : Type 0} (a : Ghosts D) where
  -- some bytes were laid over it, and their positions are dirty beside those that were
  pub record HasWritten (old new : D) : Type 0 where
    pub at : ℕ
    pub bytes : List ℕ
    pub now : a.now new ≡ overlaid (a.now old) at bytes
    pub dirty : BecomeDirty at (length bytes) (a.dirty old) (a.dirty new)

  -- a write failed: its positions are dirty, and may read as anything
  pub record HasTorn (old new : D) : Type 0 where
    pub at : ℕ
    pub count : ℕ
    pub now : IsSameOutside at count (a.now old) (a.now new)
    pub dirty : BecomeDirty at count (a.dirty old) (a.dirty new)

  -- all of it was made stable
  pub record HasSynced (old new : D) : Type 0 where
    pub now : a.now new ≡ a.now old
    pub clean : IsClean (a.dirty new)

  -- it was read, or a sync failed
  pub record IsUnchanged (old new : D) : Type 0 where
    pub now : a.now new ≡ a.now old
    pub dirty : (k : ℕ) → a.dirty new k ≡ a.dirty old k

  -- by whether the call was made or failed
  abbrev pub Leaves : Bool → D → D → Type 0
  Leaves true old new = HasWritten old new ⊎ (HasSynced old new ⊎ IsUnchanged old new)
  Leaves false old new = HasTorn old new ⊎ IsUnchanged old new

  -- the same device, which was called once more, and has failed once more just where the call did; while it is honest one call
  -- leaves this
  pub record IsOneCall (ok : Bool) (old new : D) : Type 0 where
    pub honest : a.honest new ≡ a.honest old
    pub same_length : length (a.now new) ≡ length (a.now old)
    pub called : a.calls new ≡ a.calls old + 1
    pub counted : a.failures new ≡ (if ok then a.failures old else a.failures old + 1)
    pub leaves : a.honest old ≡ true → Leaves ok old new

-- Of a segment: what is made ready for a record at a segment, before any is applied.
use Rattle.std.specs.Prelude.{◌≡◌, ◌+◌, ◌≤◌, true, false, Option, None, Some, length}
use Rattle.lc_record.specs.declared.part.Part.{Part}
use Rattle.lc_token.specs.Backlog.{is_known, keeping}
use Rattle.lc_segments.specs.Delivering.{IsAwaited, IsReadied, IsTidy}
use Rattle.lc_segments.specs.SegView.{SegView}
use Rattle.lc_segments.specs.declared.reception.Reception.{Reception}
use Rattle.lc_segments.specs.declared.reception.Reception.TheVariants.{Ignored, HeldBack, Next, NoMemory}

module _ {D : Type 0} where
  -- there is room to apply one part more, and all that are held back
  abbrev pub HasRoomForAll : SegView D → Type 0
  HasRoomForAll s = length s.applied + 1 + length s.backlog.kept ≤ s.room

  abbrev pub Prepares : Option Part → SegView D → Reception → SegView D → Type 0
  Prepares None old Ignored new = new ≡ old
  Prepares None old (HeldBack seq) new = ⊥
  Prepares None old (Next next) new = ⊥
  Prepares None old NoMemory new = ⊥
  Prepares (Some part) old Ignored new = (is_known old.backlog part.seq ≡ true) × (new ≡ old)
  Prepares (Some part) old (HeldBack seq) new =
      (is_known old.backlog part.seq ≡ false) × (IsAwaited old part.seq → ⊥) × (seq ≡ part.seq) × (new ≡ record old { backlog = keeping old.backlog part })
  Prepares (Some part) old (Next next) new =
      (is_known old.backlog part.seq ≡ false) × IsAwaited old part.seq × (next ≡ part) × IsTidy old new × HasRoomForAll new
  Prepares (Some part) old NoMemory new = (is_known old.backlog part.seq ≡ false) × IsReadied old new

  -- what was made ready may be gone on with
  abbrev pub CanFinish : SegView D → Reception → Type 0
  CanFinish s Ignored = Unit {0}
  CanFinish s (HeldBack seq) = Unit {0}
  CanFinish s (Next next) = (s.standing.token ≡ None) × (next.seq ≡ s.backlog.applied + 1) × HasRoomForAll s
  CanFinish s NoMemory = ⊥

-- there was memory
abbrev pub IsReceived : Reception → Type 0
IsReceived Ignored = Unit {0}
IsReceived (HeldBack seq) = Unit {0}
IsReceived (Next next) = Unit {0}
IsReceived NoMemory = ⊥

-- An area that a file mirrors, as contracts see it.
use Rattle.std.specs.Prelude.{◌≡◌, ℕ, ◌+◌, ◌<◌, Bool, true, if◌then◌else◌, nat_le, List, length, take, drop, Option, Some, None}
use Rattle.lc_disk.specs.Area.{overlaid}
use Rattle.lc_disk.specs.Tally.{tallied}
use Rattle.lc_c.specs.DirtyPositions.{is_dirty}
use Rattle.lc_c.specs.declared.area_call.AreaCall.{AreaCall}
use Rattle.lc_c.specs.declared.area_call.AreaCall.TheVariants.{Write, Sync}
use Rattle.lc_c.specs.declared.mirror_area.MirrorArea.{MirrorArea}

-- what a read gives
abbrev pub mirror_now : MirrorArea → List ℕ
mirror_now m = m.bytes.items

-- the same before its last call
abbrev pub mirror_before : MirrorArea → List ℕ
mirror_before m = m.before.value.items

-- which positions are dirty
abbrev pub mirror_dirty : MirrorArea → ℕ → Bool
mirror_dirty m = is_dirty m.dirty

-- its last call
abbrev pub mirror_last : MirrorArea → Option AreaCall
mirror_last m = m.last

-- how many there were
abbrev pub mirror_calls : MirrorArea → ℕ
mirror_calls m = m.calls

-- how often it was called to read, write or sync
abbrev pub mirror_tally : MirrorArea → ℕ
mirror_tally m = tallied m.tally

-- what a file of these bytes holds once the call is made of it; a write takes its bytes from an area that holds those
abbrev pub called : Option AreaCall → List ℕ → List ℕ → List ℕ
called None file area = file
called (Some (Write at len)) file area = overlaid file at (take len (drop at area))
called (Some Sync) file area = file

-- it holds these bytes of a file, none of them known to be stable, and nothing was called
pub record IsOfFile (bytes : List ℕ) (m : MirrorArea) : Type 0 where
  pub holds : mirror_now m ≡ bytes
  pub dirty : (k : ℕ) → k < length bytes → mirror_dirty m k ≡ true
  pub last : m.last ≡ None
  pub calls : m.calls ≡ 0

-- so many bytes of an area from a position on, where it has them
abbrev pub window_of : MirrorArea → ℕ → ℕ → Option (List ℕ)
window_of area at len = if nat_le (at + len) (length (mirror_now area)) then Some (take len (drop at (mirror_now area))) else None

-- the same of an area that is there
abbrev pub window_in : Option MirrorArea → ℕ → ℕ → Option (List ℕ)
window_in None at len = None
window_in (Some area) at len = window_of area at len

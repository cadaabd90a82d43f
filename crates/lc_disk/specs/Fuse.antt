-- A fuse, as contracts see it.
use Rattle.std.specs.Prelude.{◌≡◌, ◌↔◌, ℕ, ◌+◌, ◌-◌, ◌^◌, Bool, min, IsTrue, if◌then◌else◌}
use Rattle.lc_disk.specs.declared.fuse.Fuse.{Fuse}
use Rattle.lc_disk.specs.declared.mem_area.MemArea.{MemArea}
use Rattle.lc_disk.specs.declared.when.When.{When}
use Rattle.lc_disk.specs.Count.{counted}
use Rattle.lc_disk.specs.When.{Fails}

-- its area
abbrev pub fuse_area : Fuse → MemArea
fuse_area f = f.area

-- which calls fail
abbrev pub fuse_when : Fuse → When
fuse_when f = f.when

-- how often it was called to read, write or sync
abbrev pub fuse_calls : Fuse → ℕ
fuse_calls f = counted f.calls

-- how many of them failed
abbrev pub fuse_failures : Fuse → ℕ
fuse_failures f = counted f.faults

-- a call was counted, and failed or not as it was told to
pub record IsCounted (old new : Fuse) (failed : Bool) : Type 0 where
  pub when : fuse_when new ≡ fuse_when old
  pub calls : fuse_calls new ≡ fuse_calls old + 1
  pub fails : IsTrue failed ↔ Fails (fuse_when old) (fuse_calls old + 1)
  pub failures : fuse_failures new ≡ (if failed then fuse_failures old + 1 else fuse_failures old)

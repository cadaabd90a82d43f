-- Which positions of an area are dirty, as contracts see it.
use Rattle.std.specs.Prelude.{ℕ, ◌+◌, Bool, true, false, if◌then◌else◌, nat_lt, Option, None, Some}
use Rattle.std.specs.declared.snapshot.Snapshot.{Snapshot}
use Rattle.lc_c.specs.declared.dirty_positions.DirtyPositions.{DirtyPositions}
use Rattle.lc_c.specs.declared.dirty_positions.DirtyPositions.TheOpen.{DirtyPositions-F}
use Rattle.lc_c.specs.declared.dirty_positions.DirtyPositions.TheFolds.{fold-DirtyPositions}

-- what was dirty before a write, nothing where there was none
abbrev pub dirty_before : Option (Snapshot (ℕ → Bool)) → ℕ → Bool
dirty_before None k = false
dirty_before (Some before) k = before.value k

-- what is dirty after it
abbrev pub dirty_after : DirtyPositions-F (ℕ → Bool) → ℕ → Bool
dirty_after d k =
    if nat_lt k d.at.value then dirty_before d.before k
    else if nat_lt k (d.at.value + d.len.value) then true else dirty_before d.before k

-- which positions are dirty
abbrev pub is_dirty : DirtyPositions → ℕ → Bool
is_dirty = fold-DirtyPositions (ℕ → Bool) dirty_after

-- An area in memory, as contracts see it.
use Rattle.std.specs.Prelude.{◌≡◌, ℕ, Bool, false, List, slice_index_or}
use Rattle.lc_disk.specs.Tally.{tallied}
use Rattle.lc_disk.specs.declared.mem_area.MemArea.{MemArea}

-- what a read gives
abbrev pub memory_now : MemArea → List ℕ
memory_now m = m.bytes.items

-- what stood there after the last sync
abbrev pub memory_stable : MemArea → List ℕ
memory_stable m = m.stable.items

-- which positions are dirty
abbrev pub memory_dirty : MemArea → ℕ → Bool
memory_dirty m k = slice_index_or m.dirty.items k false

-- how often it was called to read, write or sync
abbrev pub memory_calls : MemArea → ℕ
memory_calls m = tallied m.calls

-- but for that count it is as it was
pub record KeepsMemory (old new : MemArea) : Type 0 where
  pub now : memory_now new ≡ memory_now old
  pub stable : memory_stable new ≡ memory_stable old
  pub dirty : (k : ℕ) → memory_dirty new k ≡ memory_dirty old k

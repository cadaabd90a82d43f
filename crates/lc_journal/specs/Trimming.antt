-- Of a journal: what it is that records are counted which every node has applied.
use Rattle.std.specs.Prelude.{◌≡◌, ℕ, ◌≤◌, List, Some, slice_get}
use Rattle.lc_record.specs.declared.record.Lock.{Lock}
use Rattle.lc_model.specs.State.{Setting}

-- a lock on a segment of the geometry
abbrev pub IsKnown : Setting → Lock → Type 0
IsKnown m lock = (1 ≤ lock.segment) × (lock.segment ≤ m.geometry.segments)

-- each of these is
abbrev pub AreKnown : Setting → List Lock → Type 0
AreKnown m locks = (k : ℕ) (lock : Lock) → slice_get locks k ≡ Some lock → IsKnown m lock

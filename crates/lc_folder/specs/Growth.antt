-- Which copies of a store hold all of it.
use Rattle.std.specs.Prelude.{◌≡◌, ◌⊎◌, ℕ, ◌+◌, ◌<◌, ◌≤◌}
use Rattle.lc_record.specs.declared.geometry.Geometry.{Geometry}

-- the logs of both are as many, and as long
abbrev pub HasSameLogs : Geometry → Geometry → Type 0
HasSameLogs store copy = (copy.nodes ≡ store.nodes) × (copy.words ≡ store.words)

-- and each segment of the store has one in the copy that is at least as long
abbrev pub Holds : Geometry → Geometry → Type 0
Holds store copy = HasSameLogs store copy × (store.pages ≤ copy.pages) × (store.segments ≤ copy.segments)

-- the first area for which the copy has no room
abbrev pub IsLacking : Geometry → Geometry → ℕ → Type 0
IsLacking store copy area =
    ((HasSameLogs store copy → ⊥) × (area ≡ 0))
    ⊎ ((HasSameLogs store copy × (copy.pages < store.pages) × (area ≡ store.nodes))
    ⊎ (HasSameLogs store copy × (store.pages ≤ copy.pages) × (copy.segments < store.segments) × (area ≡ store.nodes + copy.segments)))

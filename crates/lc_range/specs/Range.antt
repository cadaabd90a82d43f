-- Ranges of segments' positions.
use Rattle.std.specs.Prelude.{◌≡◌, ◌⊎◌, ℕ, ◌+◌, ◌<◌, ◌≤◌}
use Rattle.lc_range.specs.declared.range.Range.{Range}

-- a range has a position of a segment
abbrev pub HasPosition : Range → ℕ → ℕ → Type 0
HasPosition range segment k = (segment ≡ range.segment) × (range.offset ≤ k) × (k < range.offset + range.len)

-- a range lies before another: in an earlier segment, or in the same with a gap between
abbrev pub IsBefore : Range → Range → Type 0
IsBefore a b = (a.segment < b.segment) ⊎ ((a.segment ≡ b.segment) × (a.offset + a.len < b.offset))

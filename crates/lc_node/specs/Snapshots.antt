-- What a copy has of a segment.
use Rattle.std.specs.Prelude.{◌≡◌}
use Rattle.lc_applied.specs.AppliedParts.{laid_parts}
use Rattle.lc_segments.specs.SegView.{SegView}
use Rattle.lc_segments.specs.declared.snapshot.Snapshot.{Snapshot}

-- the copy has the segment's bytes, and the number of the last record that they have
pub record IsCopyOf {D : Type 0} (side : SegView D) (copy : Snapshot) : Type 0 where
  pub number : copy.number ≡ side.backlog.applied
  pub bytes : copy.bytes.items ≡ laid_parts side.applied side.base

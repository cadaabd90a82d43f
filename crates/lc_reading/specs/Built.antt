-- Of a cluster that is read: what the pieces of a store are that is built of the parts of a cluster at rest.
use Rattle.std.specs.Prelude.{◌≡◌, ℕ, ◌+◌, true, if◌then◌else◌}
use Rattle.lc_disk.specs.declared.area.Area.{Ghosts}
use Rattle.lc_rest.specs.Merge.{number_at}
use Rattle.lc_rest.specs.Passed.{Read, merged}
use Rattle.lc_rest.specs.Replay.{bytes_after}
use Rattle.lc_rest.specs.Stable.{bytes_up_to, stable_count}
use Rattle.lc_desk.specs.Pieces.{is_here}
use Rattle.lc_desk.specs.declared.segment_piece.SegmentPiece.{SegmentPiece}

-- all records put on the bytes of the pages, and those up to the last stable number
pub record IsPieceOf (h : Read) (segment : ℕ) (piece : SegmentPiece) : Type 0 where
  pub holder : piece.holder ≡ h.holder segment
  pub bytes : piece.bytes.items ≡ bytes_after segment (merged h) (h.bytes segment)
  pub stable : piece.stable ≡ number_at h.numbers segment + stable_count segment h.logs h.counts
  pub stable_bytes : piece.stable_bytes.items ≡ bytes_up_to segment piece.stable (merged h) (h.bytes segment)
  -- where the token is, all is applied, and elsewhere what is stable
  pub applied : (node : ℕ) → h.applied node segment ≡ (if is_here node (h.holder segment) then (h.token segment).seq else piece.stable)

module _ {D : Type 0} (a : Ghosts D) where
  -- the area is as it was
  pub record IsSameArea (old new : D) : Type 0 where
    pub honest : a.honest new ≡ a.honest old
    pub now : a.honest old ≡ true → a.now new ≡ a.now old
    pub dirty : a.honest old ≡ true → (at : ℕ) → a.dirty new at ≡ a.dirty old at

use Rattle.std.proofs.Common.{◌≡◌, ℕ, ◌+◌, ◌<◌, Some, vec_len}
use Rattle.std.specs.Prelude.{slice_get}
use Rattle.lc_reading.specs.Built.{IsPieceOf}
use Rattle.lc_desk.specs.Pieces.{AreLong}
use Rattle.lc_reading.specs.Readings.{KeepsPictures, tests_of}
use Rattle.lc_desk.specs.declared.segment_piece.SegmentPiece.{SegmentPiece}
use Rattle.lc_reading.proofs.read_parts.ReadParts.test_images.Given as goal

abbrev pub invariant-loop-place : goal.invariant-loop-place
invariant-loop-place l = record {
  count : vec_len l.pieces ≡ l.place;
  long : AreLong l.self.geometry l.pieces.items;
  made : (k : ℕ) (piece : SegmentPiece) → slice_get l.pieces.items k ≡ Some piece → IsPieceOf (tests_of l.self l.order) (k + 1) piece;
  keeps : (k : ℕ) → k < l.place → KeepsPictures (tests_of l.self l.order) l.nodes (k + 1);
}

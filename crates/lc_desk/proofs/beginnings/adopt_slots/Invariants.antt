use Rattle.std.proofs.Common.{◌≡◌, ℕ, ◌+◌, ◌<◌, ◌≤◌, Option, Some}
use Rattle.std.specs.Prelude.{slice_get}
use Rattle.lc_token.specs.declared.token.Token.{Token}
use Rattle.lc_desk.specs.Blank.{AreOfSegments}
use Rattle.lc_desk.specs.Pieces.{AreTokens, IsMadeSlot, left_at, standing_at}
use Rattle.lc_desk.specs.declared.segment_piece.SegmentPiece.{SegmentPiece}
use Rattle.lc_desk.specs.declared.segment_copy.SegmentCopy.{SegmentCopy}
use Rattle.lc_desk.proofs.beginnings.adopt_slots.Given as goal

abbrev pub invariant-loop-place : goal.invariant-loop-place
invariant-loop-place l = record {
  each : AreOfSegments l.segments.geometry l.slots;
  named : AreTokens l.segments.geometry l.tokens;
  made : (k : ℕ) (slot : SegmentCopy) → k < l.place → slice_get l.slots k ≡ Some slot → (piece : SegmentPiece) (token : Option Token) → slice_get l.segments.pieces.items k ≡ Some piece
      → slice_get l.initial.tokens k ≡ Some token → IsMadeSlot (k + 1) piece (standing_at l.node piece.holder token) slot;
  left : (k : ℕ) (now : Option Token) → k < l.place → slice_get l.tokens k ≡ Some now → (piece : SegmentPiece) (token : Option Token) → slice_get l.segments.pieces.items k ≡ Some piece
      → slice_get l.initial.tokens k ≡ Some token → now ≡ left_at l.node piece.holder token;
  behind : (k : ℕ) → l.place ≤ k → slice_get l.tokens k ≡ slice_get l.initial.tokens k;
}

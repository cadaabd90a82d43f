use Rattle.std.proofs.Common.{◌≡◌, ℕ, ◌<◌, ◌≤◌, Option, Some}
use Rattle.std.specs.Prelude.{drop, slice_get}
use Rattle.lc_token.specs.declared.token.Token.{Token}
use Rattle.lc_desk.specs.Pieces.{AreTokens}
use Rattle.lc_events.specs.Pieces.{IsMadeNode}
use Rattle.lc_core.specs.Pieces.{left_by}
use Rattle.lc_events.specs.declared.node_state.NodeState.{NodeState}
use Rattle.lc_journal.specs.declared.node_piece.NodePiece.{NodePiece}
use Rattle.lc_desk.specs.declared.segment_piece.SegmentPiece.{SegmentPiece}
use Rattle.lc_core.proofs.adopting.adopt_nodes.Given as goal

abbrev pub invariant-loop-number : goal.invariant-loop-number
invariant-loop-number g l = record {
  rest : l.pieces.items ≡ drop l.number l.fn.pieces.items;
  named : AreTokens l.segments.geometry l.tokens;
  made : (n : ℕ) (node : NodeState g.row.D.Denot g.D.Area) → n < l.number → slice_get l.nodes n ≡ Some node → (piece : NodePiece g.row.D.Denot g.D.Area) → slice_get l.fn.pieces.items n ≡ Some piece
      → IsMadeNode g.D.Area l.segments.geometry n l.segments.pieces.items l.initial.tokens piece node;
  behind : (n : ℕ) → l.number ≤ n → slice_get l.nodes n ≡ slice_get l.initial.nodes n;
  left : (k : ℕ) (now : Option Token) → slice_get l.tokens k ≡ Some now → (piece : SegmentPiece) (token : Option Token) → slice_get l.segments.pieces.items k ≡ Some piece
      → slice_get l.initial.tokens k ≡ Some token → now ≡ left_by l.number piece.holder token;
}

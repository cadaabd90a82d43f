use Rattle.std.proofs.Common.{◌≡◌, ◌≤◌, ◌+◌, ℕ, All, Some, vec_len, vec_capacity}
use Rattle.std.specs.Prelude.{slice_get}
use Rattle.lc_rest.specs.Parts.{KeepsPages}
use Rattle.lc_rest.specs.declared.segment_part.SegmentPart.{SegmentPart}
use Rattle.lc_segments.specs.LeftBy.{IsSettledPart}
use Rattle.lc_node.specs.Refusals.{HasToken, first_of}
use Rattle.lc_node.proofs.OrderedTokens.{left_behind}
use Rattle.lc_node.proofs.ordering_tokens.in_order.Given as goal

abbrev pub invariant-loop-place : goal.invariant-loop-place
invariant-loop-place g l = record {
  count : vec_len l.parts ≡ l.place;
  fit : l.geometry.segments ≤ vec_capacity l.parts;
  one_each : vec_len l.tokens + l.place ≡ vec_len l.fn.tokens;
  order : (place : ℕ) (part : SegmentPart g.row.D.Denot) → slice_get l.parts.items place ≡ Some part → part.token.segment ≡ place + 1;
  pages : All (KeepsPages g.D.Area l.geometry) l.parts.items;
  settled : All (IsSettledPart g.D.Area) l.tokens.items;
  left : l.tokens.items ≡ left_behind l.place l.fn.tokens.items;
  firsts : (place : ℕ) (part : SegmentPart g.row.D.Denot) → slice_get l.parts.items place ≡ Some part → first_of (place + 1) l.fn.tokens.items ≡ Some part;
  has : (segment : ℕ) → 1 ≤ segment → segment ≤ l.place → HasToken g.D.Area l.geometry l.fn.tokens.items segment;
}

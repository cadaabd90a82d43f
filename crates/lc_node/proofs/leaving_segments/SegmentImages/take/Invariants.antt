use Rattle.std.proofs.Common.{◌≡◌, ◌+◌, ◌≤◌, All, drop, take, vec_len, vec_capacity}
use Rattle.lc_segments.specs.LeftBy.{IsSettledPart}
use Rattle.lc_node.specs.LeftBy.{StoodBehind}
use Rattle.lc_node.proofs.leaving_segments.SegmentImages.take.Given as goal

abbrev pub invariant-loop : goal.invariant-loop
invariant-loop g l = record {
  left : vec_len l.segments + l.counter ≡ vec_len l.fn.segments;
  images : vec_len l.images ≡ l.counter;
  applied : vec_len l.applied ≡ l.counter;
  images_fit : vec_len l.fn.segments ≤ vec_capacity l.images;
  applied_fit : vec_len l.fn.segments ≤ vec_capacity l.applied;
  taken : l.segments.items ≡ drop l.counter l.fn.segments.items;
  behind : StoodBehind l.node (take l.counter l.fn.segments.items) l.images.items l.applied.items l.initial.tokens.items l.tokens.items;
  settled : All (IsSettledPart g.D.Area) l.tokens.items;
}

use Rattle.std.proofs.Common.{◌≡◌, ◌≤◌, drop, map, take, vec_capacity}
use Rattle.lc_rest.specs.declared.segment_part.SegmentPart.{SegmentPart}
use Rattle.lc_reading.proofs.read_segments.ReadSegments.read.Given as goal

abbrev pub invariant-loop : goal.invariant-loop
invariant-loop g l = record {
  rest : l.parts.items ≡ drop l.counter l.fn.parts.items;
  tokens : l.tokens.items ≡ map (λ (part : SegmentPart g.row.D.Denot). part.token) (take l.counter l.fn.parts.items);
  holders : l.holders.items ≡ map (λ (part : SegmentPart g.row.D.Denot). part.holder) (take l.counter l.fn.parts.items);
  areas : l.areas.items ≡ map (λ (part : SegmentPart g.row.D.Denot). part.area) (take l.counter l.fn.parts.items);
  room : l.room ≤ vec_capacity l.areas;
}

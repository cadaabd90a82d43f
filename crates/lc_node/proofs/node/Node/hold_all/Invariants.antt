use Rattle.std.proofs.Common.{◌≤◌, length, vec_capacity}
use Rattle.lc_node.proofs.AllHeld.{HoldsTo}
use Rattle.lc_node.proofs.node.Node.hold_all.Given as goal

abbrev pub invariant-loop-place : goal.invariant-loop-place
invariant-loop-place g l = record {
  holds : HoldsTo l.self l.segments l.place l.asked.items l.others.items;
  room : length l.self.segments.items ≤ vec_capacity l.asked;
  room_too : length l.self.segments.items ≤ vec_capacity l.others;
}

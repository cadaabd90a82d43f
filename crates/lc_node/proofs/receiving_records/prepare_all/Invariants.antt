use Rattle.std.proofs.Common.{◌≡◌, ◌≤◌, ◌<◌, All, length, true, false, vec_capacity}
use Rattle.lc_node.specs.Receptions.{IsPrepared}
use Rattle.lc_segments.specs.Receptions.{IsReceived}
use Rattle.lc_node.proofs.Pushing.{Pushing}
use Rattle.lc_node.proofs.receiving_records.prepare_all.Given as goal

abbrev pub invariant-loop-place : goal.invariant-loop-place
invariant-loop-place g l = record {
  prepared : Pushing (IsPrepared l.record) l.initial.sides.items l.sides.items l.receptions.items l.place;
  whole : l.whole ≡ true → All IsReceived l.receptions.items;
  lacking : l.whole ≡ false → 0 < length l.initial.sides.items;
  room : length l.initial.sides.items ≤ vec_capacity l.receptions;
}

use Rattle.std.proofs.Common.{◌≡◌, vec_len}
use Rattle.lc_desk.specs.Blank.{AreOfSegments, StandAt}
use Rattle.lc_desk.proofs.beginnings.blank_slots.Given as goal

abbrev pub invariant-loop-before : goal.invariant-loop-before
invariant-loop-before l = record {
  count : vec_len l.slots ≡ l.before;
  slots : AreOfSegments l.geometry l.slots.items;
  stand : StandAt l.geometry l.node l.slots.items;
}

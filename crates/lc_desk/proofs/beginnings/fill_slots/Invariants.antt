use Rattle.std.proofs.Common.{◌≡◌, ℕ, ◌+◌, ◌<◌, ◌≤◌, Some}
use Rattle.std.specs.Prelude.{slice_get}
use Rattle.lc_desk.specs.Blank.{AreOfSegments, StandAt}
use Rattle.lc_desk.specs.Fresh.{IsFreshSlot}
use Rattle.lc_desk.specs.declared.segment_copy.SegmentCopy.{SegmentCopy}
use Rattle.lc_desk.proofs.beginnings.fill_slots.Given as goal

abbrev pub invariant-loop-place : goal.invariant-loop-place
invariant-loop-place g l = record {
  each : AreOfSegments l.recovered.geometry l.slots;
  front : (k : ℕ) (slot : SegmentCopy) → k < l.place → slice_get l.slots k ≡ Some slot
      → (node : ℕ) → StandAt l.recovered.geometry node l.initial.slots → IsFreshSlot l.recovered node (k + 1) slot;
  behind : (k : ℕ) → l.place ≤ k → slice_get l.slots k ≡ slice_get l.initial.slots k;
}

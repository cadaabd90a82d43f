use Rattle.std.proofs.Common.{◌≡◌, length}
use Rattle.lc_desk.specs.Receives.{parts_over, without_due}
use Rattle.lc_desk.proofs.segment_copy.SegmentCopy.catch_up.Given as goal

abbrev pub invariant-loop-part : goal.invariant-loop-part
invariant-loop-part l = record {
  bytes : parts_over l.self.parts.due l.self.image.bytes.items ≡ parts_over l.fn.self.parts.due l.fn.self.image.bytes.items;
  holders : l.self.image.holders ≡ l.fn.self.image.holders;
  token : l.self.token ≡ l.fn.self.token;
  parts : without_due l.self.parts ≡ without_due l.fn.self.parts;
}

abbrev pub decreases-loop-part : goal.decreases-loop-part
decreases-loop-part l = length l.self.parts.due

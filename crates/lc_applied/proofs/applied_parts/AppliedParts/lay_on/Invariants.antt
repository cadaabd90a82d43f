use Rattle.std.proofs.Common.{◌≡◌, drop}
use Rattle.lc_applied.specs.AppliedParts.{laid_parts}
use Rattle.lc_applied.specs.AppliedPart.{parts_of, AreUsedUp}
use Rattle.lc_applied.proofs.applied_parts.AppliedParts.lay_on.Given as goal

abbrev pub invariant-loop-entry : goal.invariant-loop-entry
invariant-loop-entry l = record {
  bytes : laid_parts (parts_of (drop l.entry-index l.entry-items) l.runs l.bytes) l.image.bytes.items ≡ laid_parts l.self.parts l.initial.image.bytes.items;
  holders : l.image.holders ≡ l.initial.image.holders;
  used : AreUsedUp (drop l.entry-index l.entry-items) l.runs l.bytes;
}

use Rattle.std.proofs.Common.{◌≡◌, ◌+◌, ◌≤◌, ◌++◌, length}
use Rattle.lc_segments.specs.Applying.{caught_up, ready_in}
use Rattle.lc_applied.specs.AppliedParts.{laid_parts}
use Rattle.lc_segments.proofs.seg_side.SegSide.catch_up.Given as goal

abbrev pub invariant-loop-part : goal.invariant-loop-part
invariant-loop-part g l = record {
  same : l.self ≡ record l.fn.self { applied = l.self.applied; backlog = l.self.backlog };
  room : length l.self.applied + length l.self.backlog.kept ≤ l.self.room;
  run : l.self.applied ++ ready_in l.self.backlog ≡ l.fn.self.applied ++ ready_in l.fn.self.backlog;
  end : caught_up l.self.backlog ≡ caught_up l.fn.self.backlog;
  shows : l.image.bytes.items ≡ laid_parts l.self.applied l.self.base;
  holders : l.image.holders ≡ l.fn.image.holders;
}

abbrev pub decreases-loop-part : goal.decreases-loop-part
decreases-loop-part g l = length l.self.backlog.kept

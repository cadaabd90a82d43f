use Rattle.std.proofs.Common.{length}
use Rattle.lc_recover.proofs.Filling.{AreFilled}
use Rattle.lc_recover.proofs.segment_pages.SegmentPages.fill.Given as goal

abbrev pub invariant-loop-page : goal.invariant-loop-page
invariant-loop-page l = AreFilled l.area (length l.initial.self.texts) l.page l.self

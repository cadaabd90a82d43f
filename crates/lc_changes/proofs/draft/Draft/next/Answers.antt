use Rattle.std.proofs.Common.{subst, sym, List}
use Rattle.lc_range.specs.RangeSet.{EndWithin}
use Rattle.lc_range.specs.declared.range.Range.{Range}
use Rattle.lc_changes.proofs.Drafting.{one_within}
use Rattle.lc_changes.proofs.draft.Draft.next.Goals as goal

pub returns-clause-inside : goal.returns-clause-inside
returns-clause-inside c = λ range is.
    let held = c.ranges-ranges in
    one_within held.result.now c.args.self.now.changes.image_len c.args.self.now.handed (record { segment = 0; offset = 0; len = 0 }) range
    (subst (λ (set : List Range). EndWithin set c.args.self.now.changes.image_len) (sym held.ensures.ranges) held.ensures.ends) c.if-self-ranges.false is

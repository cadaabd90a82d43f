use Rattle.std.proofs.Common.{subst}
use Rattle.lc_range.specs.RangeSet.{EndWithin}
use Rattle.lc_tx.proofs.RecordLemmas.{short_from}
use Rattle.lc_changes.specs.ChangesView.{ChangesView}
use Rattle.lc_changes.proofs.changes.Changes.ranges.Goals as goal

pub returns-clause-ends : goal.returns-clause-ends
returns-clause-ends c =
    let a = c.self.inside in
    subst (λ (v : ChangesView). EndWithin v.set v.image_len) c.self.view_is (short_from a.set a.image_len c.ranges-2.ensures.canonical c.self.invariant.set_inside)

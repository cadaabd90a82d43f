use Rattle.std.proofs.Common.{ℕ, List, sym, ap, subst, ◌∙◌}
use Rattle.lc_range.specs.RangeSet.{EndWithin}
use Rattle.lc_range.specs.declared.range.Range.{Range}
use Rattle.lc_tx.proofs.RecordLemmas.{short_from}
use Rattle.lc_changes.specs.ChangesView.{ChangesView}
use Rattle.lc_changes.proofs.changes.Changes.gather.Goals as goal

pub add_bytes-done-requires : goal.add_bytes-done-requires
add_bytes-done-requires c =
    let a = c.self.inside in
    subst (λ (n : ℕ). EndWithin c.ranges-2.result.now n) (ap (λ (v : ChangesView). v.image_len) c.self.view_is ∙ sym c.requires)
    (subst (λ (l : List Range). EndWithin l a.image_len) (sym c.ranges-2.ensures.runs) (short_from a.set a.image_len c.ranges-2.ensures.canonical c.self.invariant.set_inside))

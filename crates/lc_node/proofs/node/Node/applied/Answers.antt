use Rattle.std.proofs.Common.{◌≡◌, sym, ap, ◌∙◌}
use Rattle.lc_segments.specs.SegView.{SegView}
use Rattle.lc_segments.specs.declared.held.HeldSide.{HeldSide}
use Rattle.lc_node.proofs.SegmentLocks.{held_now}
use Rattle.lc_node.proofs.node.Node.applied.Goals as goal

pub returns : goal.returns
returns g c =
    let node = c.args.self.now in
    let h : HeldSide g.row.D.Denot = record { side = c.lock-side.result.0; loan = c.lock-side.result.1 } in
    let now = held_now node h c.index-lock.result.now c.args.place c.requires c.index-lock.ensures c.lock-side.ensures.fits.0 c.lock-side.ensures.loan c.lock-side.ensures.fits.1 in
    let same : c.deref.result.now ≡ c.lock-side.result.0 = c.deref.ensures ∙ c.side.view_is in
    (h, now.0, now.1, ap (λ (s : SegView _). s.backlog.applied) (sym same) ∙ sym c.applied_number-applied.ensures)

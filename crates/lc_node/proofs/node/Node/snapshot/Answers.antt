use Rattle.std.proofs.Common.{◌≡◌, ap, ◌∙◌}
use Rattle.lc_segments.specs.SegView.{SegView}
use Rattle.lc_node.proofs.node.Node.snapshot.Goals as goal

pub returns-in-Ok-clause-copied : goal.returns-in-Ok-clause-copied
returns-in-Ok-clause-copied g c =
    let same : c.deref.result.now ≡ c.lock-side.result.0 = c.deref.ensures ∙ c.side.view_is in
    (c.deref.result.now, ap (λ (s : SegView _). s.segment) same ∙ (c.lock-side.ensures.fits.0 ∙ c.lock_of-lock.ensures), record { number = c.in-Ok.ensures.number; bytes = c.in-Ok.ensures.bytes })

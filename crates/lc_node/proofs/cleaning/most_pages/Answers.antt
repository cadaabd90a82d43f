use Rattle.std.proofs.Common.{◌≡◌, ◌*◌, ◌≤◌, length, ap, subst, ◌∙◌, arith}
use Rattle.lc_segments.specs.SegView.{SegView}
use Rattle.lc_segments.specs.declared.held.HeldSide.{HeldSide}
use Rattle.lc_node.proofs.PagesWritten.{pages_more, pages_in_all, upto_max}
use Rattle.lc_node.proofs.cleaning.most_pages.Goals as goal

pub loop-held-preserved : goal.loop-held-preserved
loop-held-preserved g c = let same : c.deref.result.now ≡ c.held-item.result.side = c.deref.ensures ∙ ap (λ (h : HeldSide _). h.side) c.held.view_is in let most = upto_max c.loop-held.most c.page_count.result c.max-most.result c.max-most.ensures in
    pages_more c.args.sides.now c.loop-held.held-index c.loop-held.most c.page_count.result c.max-most.result c.held-item.result
    (let more = c.loop-held-test.true in omega arith) c.held-item.is c.loop-held.invariant (subst (λ (s : SegView _). length s.base ≤ c.page_count.result * 256) same c.page_count.ensures) most.0 most.1

pub returns : goal.returns
returns g c = pages_in_all c.args.sides.now c.loop-held.held-index c.loop-held.most (let end = c.loop-held-test.false in omega arith) c.loop-held.invariant

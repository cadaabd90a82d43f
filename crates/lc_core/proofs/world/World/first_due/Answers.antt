use Rattle.std.proofs.Common.{◌∙◌, None, sym, arith}
use Rattle.lc_core.specs.Truncating.{CallsDue}
use Rattle.lc_core.proofs.Truncations.{none_left, not_called, one_goes_on}
use Rattle.lc_core.proofs.world.World.first_due.Goals as goal

pub returns-then-is_due : goal.returns-then-is_due
returns-then-is_due g c = (omega (arith, c.loop-page.auto.page), c.loop-page-test.true, sym c.is_due.ensures ∙ c.if-is_due.true, c.loop-page.invariant)

pub loop-page-preserved : goal.loop-page-preserved
loop-page-preserved g c = λ refused new rest.
    let a = g.D.Area in
    let w = c.args.self.now in
    c.loop-page.invariant refused new
    (one_goes_on a (CallsDue a c.args.node c.args.segment) c.args.pages c.loop-page.page w w c.loop-page-test.true
    (not_called a c.args.node c.args.segment c.loop-page.page w (sym c.is_due.ensures ∙ c.if-is_due.false)) refused new rest)

pub returns : goal.returns
returns g c =
    c.loop-page.invariant None c.args.self.now
    (none_left g.D.Area (CallsDue g.D.Area c.args.node c.args.segment) c.args.pages c.loop-page.page c.args.self.now (omega (arith, c.loop-page-test.false)))

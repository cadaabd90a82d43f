use Rattle.std.proofs.Common.{below_more}
use Rattle.lc_rest.specs.TokenTest.{IsKeptPage, ReachesPage}
use Rattle.lc_rest.proofs.token_test.keeps_range.Goals as goal

pub loop-page-preserved : goal.loop-page-preserved
loop-page-preserved c =
    below_more (λ page. ReachesPage c.args.range.now page → IsKeptPage c.args.number c.args.read.now.token.now.clean c.args.read.now.area.now c.args.read.now.token.now.pages page) c.loop-page.page c.loop-page.invariant
    (λ reaches. c.keeps_page.ensures.0 c.if-not-keeps_page.false)

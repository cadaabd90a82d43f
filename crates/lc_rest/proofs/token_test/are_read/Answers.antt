use Rattle.std.proofs.Common.{below_more}
use Rattle.lc_rest.specs.TokenTest.{IsReadPage}
use Rattle.lc_rest.proofs.token_test.are_read.Goals as goal

pub loop-page-preserved : goal.loop-page-preserved
loop-page-preserved c =
    below_more (IsReadPage c.args.least c.args.read.now.area.now c.args.read.now.token.now.pages) c.loop-page.page c.loop-page.invariant (c.is_read.ensures.0 c.if-not-is_read.false)

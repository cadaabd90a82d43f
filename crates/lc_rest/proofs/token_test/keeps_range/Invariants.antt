use Rattle.std.proofs.Common.{◌<◌, ℕ}
use Rattle.lc_rest.specs.TokenTest.{IsKeptPage, ReachesPage}
use Rattle.lc_rest.proofs.token_test.keeps_range.Given as goal

abbrev pub invariant-loop-page : goal.invariant-loop-page
invariant-loop-page l = (page : ℕ) → page < l.page → ReachesPage l.range page → IsKeptPage l.number l.read.token.now.clean l.read.area.now l.read.token.now.pages page

use Rattle.std.proofs.Common.{ℕ, ◌<◌}
use Rattle.lc_rest.specs.TokenTest.{IsReadPage}
use Rattle.lc_rest.proofs.token_test.are_read.Given as goal

abbrev pub invariant-loop-page : goal.invariant-loop-page
invariant-loop-page l = (page : ℕ) → page < l.page → IsReadPage l.least l.read.area.now l.read.token.now.pages page

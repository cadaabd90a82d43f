use Rattle.std.proofs.Common.{ℕ, ◌<◌}
use Rattle.lc_page.specs.Page.{page_in}
use Rattle.lc_rest.proofs.token_test.is_reached.Given as goal

abbrev pub invariant-loop-page : goal.invariant-loop-page
invariant-loop-page l = (page : ℕ) → page < l.page → (page_in l.read.area.now page).sequence < l.number

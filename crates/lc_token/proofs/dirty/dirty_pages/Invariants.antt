use Rattle.lc_token.proofs.DirtyLemmas.{DirtyBelow}
use Rattle.lc_token.proofs.dirty.dirty_pages.Given as goal

abbrev pub invariant-loop-place : goal.invariant-loop-place
invariant-loop-place l = DirtyBelow l.pages l.place l.numbers.items

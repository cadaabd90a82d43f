use Rattle.lc_token.proofs.TokenLemmas.{OldestBelow}
use Rattle.lc_token.proofs.token.oldest_dirty.Given as goal

abbrev pub invariant-loop-place : goal.invariant-loop-place
invariant-loop-place l = OldestBelow l.pages l.place l.oldest

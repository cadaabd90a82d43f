use Rattle.lc_rest.specs.TokenTest.{IsLowered}
use Rattle.lc_rest.proofs.token_test.lowered.Given as goal

abbrev pub invariant-loop-place : goal.invariant-loop-place
invariant-loop-place l = IsLowered l.segment l.log l.from l.place l.most l.least

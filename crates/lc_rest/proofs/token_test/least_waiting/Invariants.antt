use Rattle.lc_rest.specs.Merge.{logs_of}
use Rattle.lc_rest.proofs.KeptTokens.{IsLeastOf}
use Rattle.lc_rest.proofs.token_test.least_waiting.Given as goal

abbrev pub invariant-loop-node : goal.invariant-loop-node
invariant-loop-node l = IsLeastOf l.segment l.seq (logs_of l.logs) l.stable l.node l.least

use Rattle.std.proofs.Common.{◌≡◌, ◌+◌, take}
use Rattle.lc_rest.specs.Merge.{logs_of}
use Rattle.lc_rest.specs.TokenTest.{count_on}
use Rattle.lc_rest.proofs.token_test.first_number.Given as goal

abbrev pub invariant-loop-log : goal.invariant-loop-log
invariant-loop-log l = l.first + count_on l.segment (logs_of (take l.log-index l.logs)) ≡ l.seq

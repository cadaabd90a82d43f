use Rattle.std.proofs.Common.{All, take}
use Rattle.lc_rest.specs.LogTest.{IsOwn}
use Rattle.lc_rest.proofs.log_test.keeps_own.Given as goal

abbrev pub invariant-loop-whole : goal.invariant-loop-whole
invariant-loop-whole l = All (IsOwn l.geometry l.node) (take l.whole-index l.log)

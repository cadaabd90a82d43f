use Rattle.std.proofs.Common.{[], take}
use Rattle.lc_rest.specs.NumbersTest.{AreMarked, joined_logs}
use Rattle.lc_rest.proofs.numbers_test.mark_logs.Given as goal

abbrev pub invariant-loop-log : goal.invariant-loop-log
invariant-loop-log l = AreMarked l.segment l.first [] l.initial.marks → AreMarked l.segment l.first (joined_logs (take l.log-index l.logs)) l.marks

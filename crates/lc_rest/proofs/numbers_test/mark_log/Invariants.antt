use Rattle.std.proofs.Common.{List, ◌++◌, take}
use Rattle.lc_record.specs.declared.record.Record.{Record}
use Rattle.lc_rest.specs.NumbersTest.{AreMarked}
use Rattle.lc_rest.proofs.numbers_test.mark_log.Given as goal

abbrev pub invariant-loop-whole : goal.invariant-loop-whole
invariant-loop-whole l = (rs : List Record) → AreMarked l.segment l.first rs l.initial.marks → AreMarked l.segment l.first (rs ++ take l.whole-index l.log) l.marks

use Rattle.std.proofs.Common.{◌≡◌}
use Rattle.lc_record.specs.LockWords.{locks_in}
use Rattle.lc_record.specs.Reading.{ascend}
use Rattle.lc_record.proofs.lock_words.LockWords.ascend.Given as goal

abbrev pub invariant-loop-lock : goal.invariant-loop-lock
invariant-loop-lock l = ascend l.before (locks_in l.lock-iterator.words.now) ≡ ascend 0 (locks_in l.initial.self.words.now)

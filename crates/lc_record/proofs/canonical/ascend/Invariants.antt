use Rattle.std.proofs.Common.{◌≡◌, drop}
use Rattle.lc_record.specs.Reading.{ascend}
use Rattle.lc_record.proofs.canonical.ascend.Given as goal

abbrev pub invariant-loop-lock : goal.invariant-loop-lock
invariant-loop-lock l = ascend l.before (drop l.lock-index l.locks) ≡ ascend 0 l.locks

use Rattle.std.proofs.Common.{◌≡◌, take, length}
use Rattle.lc_rest.specs.Merge.{counted_by}
use Rattle.lc_rest.proofs.merge.count.Given as goal

abbrev pub invariant-loop-lock : goal.invariant-loop-lock
invariant-loop-lock l = (l.numbers ≡ counted_by (take l.lock-index l.whole.locks) l.initial.numbers) × (length l.numbers ≡ length l.initial.numbers)

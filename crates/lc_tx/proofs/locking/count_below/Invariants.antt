use Rattle.std.proofs.Common.{◌≡◌, ◌++◌, take, drop}
use Rattle.lc_tx.specs.Walk.{with_in_order}
use Rattle.lc_tx.proofs.locking.count_below.Given as goal

abbrev pub invariant-loop-i : goal.invariant-loop-i
invariant-loop-i l = take l.i l.numbers ++ with_in_order l.number (drop l.i l.numbers) ≡ with_in_order l.number l.numbers

use Rattle.std.proofs.Common.{◌≤◌, take}
use Rattle.lc_tx.specs.Tx.{IsSetOf, none_of}
use Rattle.lc_tx.proofs.locking.add_beside.Given as goal

abbrev pub invariant-loop-number : goal.invariant-loop-number
invariant-loop-number l = record { set : IsSetOf (none_of l.these (take l.number-index l.numbers)) l.set.items; room : 16 ≤ l.set.capacity }

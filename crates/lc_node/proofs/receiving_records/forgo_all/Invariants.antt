use Rattle.std.proofs.Common.{length}
use Rattle.lc_node.specs.Receptions.{IsForgone}
use Rattle.lc_node.proofs.Backwards.{Backwards}
use Rattle.lc_node.proofs.receiving_records.forgo_all.Given as goal

abbrev pub invariant-loop-reception : goal.invariant-loop-reception
invariant-loop-reception g l = Backwards IsForgone l.initial.sides.items l.sides.items l.initial.receptions.items l.receptions.items

abbrev pub decreases-loop-reception : goal.decreases-loop-reception
decreases-loop-reception g l = length l.receptions.items

use Rattle.std.proofs.Common.{length}
use Rattle.lc_node.proofs.Deliveries.{Finishing}
use Rattle.lc_node.proofs.receiving_records.finish_all.Given as goal

abbrev pub invariant-loop-reception : goal.invariant-loop-reception
invariant-loop-reception g l = Finishing l.initial.sides.items l.sides.items l.initial.receptions.items l.receptions.items l.done.first l.done.arrived

abbrev pub decreases-loop-reception : goal.decreases-loop-reception
decreases-loop-reception g l = length l.receptions.items

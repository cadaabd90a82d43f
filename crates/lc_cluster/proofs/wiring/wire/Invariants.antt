use Rattle.lc_cluster.specs.Wiring.{AreWired}
use Rattle.lc_cluster.proofs.wiring.wire.Given as goal

abbrev pub invariant-loop-from : goal.invariant-loop-from
invariant-loop-from g l = AreWired l.nodes l.from 0 l.all.items

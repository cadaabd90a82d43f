use Rattle.lc_cluster.specs.Cluster.{IsSeatAt}
use Rattle.lc_tests_cluster.proofs.exchanges.put_often.Given as goal

abbrev pub invariant-loop : goal.invariant-loop
invariant-loop g l = IsSeatAt l.cluster 0 l.seat

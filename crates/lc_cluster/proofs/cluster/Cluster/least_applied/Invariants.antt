use Rattle.lc_cluster.proofs.LeastApplied.{IsLeastOf}
use Rattle.lc_cluster.proofs.cluster.Cluster.least_applied.Given as goal

abbrev pub invariant-loop-member : goal.invariant-loop-member
invariant-loop-member g l = IsLeastOf l.self l.place l.member-index l.least

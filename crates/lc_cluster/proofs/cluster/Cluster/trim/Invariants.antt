use Rattle.std.proofs.Common.{◌≡◌, ℕ, ◌<◌, length, get_or}
use Rattle.lc_cluster.specs.Forgetting.{IsLeastApplied}
use Rattle.lc_cluster.proofs.cluster.Cluster.trim.Given as goal

abbrev pub invariant-loop-place : goal.invariant-loop-place
invariant-loop-place g l = record {
  long : length l.applied ≡ 16;
  least : (place : ℕ) → place < l.place → IsLeastApplied l.self place (get_or l.applied place 0);
}

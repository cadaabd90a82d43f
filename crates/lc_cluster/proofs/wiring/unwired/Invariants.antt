use Rattle.std.proofs.Common.{◌≡◌, ◌≤◌, length, vec_capacity}
use Rattle.std.specs.Prelude.{All}
use Rattle.lc_cluster.specs.Wiring.{AreNumbered}
use Rattle.lc_cluster.proofs.Wired.{HasNone}
use Rattle.lc_cluster.proofs.wiring.unwired.Given as goal

abbrev pub invariant-loop-node : goal.invariant-loop-node
invariant-loop-node g l = record {
  count : length l.all.items ≡ l.node;
  room : l.nodes ≤ vec_capacity l.all;
  numbers : AreNumbered l.all.items;
  none : All HasNone l.all.items;
}

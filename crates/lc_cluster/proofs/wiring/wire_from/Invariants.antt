use Rattle.std.proofs.Common.{◌≡◌, ℕ, length}
use Rattle.lc_cluster.specs.Wiring.{AreWired}
use Rattle.lc_cluster.proofs.wiring.wire_from.Given as goal

abbrev pub invariant-loop-to : goal.invariant-loop-to
invariant-loop-to g l = record {
  count : length l.all.items ≡ length l.initial.all.items;
  wired : (nodes : ℕ) → AreWired nodes l.from 0 l.initial.all.items → AreWired nodes l.from l.to l.all.items;
}

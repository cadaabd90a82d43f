use Rattle.std.proofs.Common.{◌≡◌, ◌+◌, ◌<◌, ◌≤◌, ℕ, Some}
use Rattle.std.specs.Prelude.{slice_get}
use Rattle.lc_rest.specs.Merge.{number_at}
use Rattle.lc_reading.specs.declared.node_images.NodeImages.{NodeImages}
use Rattle.lc_reading.proofs.tests.are_applied.Given as goal

abbrev pub invariant-loop-n : goal.invariant-loop-n
invariant-loop-n l = record {
  within : (n : ℕ) (node : NodeImages) → n < l.n → slice_get l.nodes n ≡ Some node → number_at node.applied.items (l.place + 1) ≤ l.seq;
  there : (node : NodeImages) → l.here < l.n → slice_get l.nodes l.here ≡ Some node → number_at node.applied.items (l.place + 1) ≡ l.seq;
}

use Rattle.std.proofs.Common.{◌≡◌, ◌<◌, ℕ, Some, map}
use Rattle.std.specs.Prelude.{slice_get}
use Rattle.lc_reading.specs.Pictures.{ComesUp}
use Rattle.lc_reading.specs.declared.node_images.NodeImages.{NodeImages}
use Rattle.lc_reading.proofs.tests.all_come_up.Given as goal

abbrev pub invariant-loop-node : goal.invariant-loop-node
invariant-loop-node l = (n : ℕ) (node : NodeImages) → n < l.node-index → slice_get l.nodes n ≡ Some node → ComesUp l.place (map (λ r. r.now) l.records) node l.bytes

use Rattle.std.proofs.Common.{◌≡◌, ℕ, Some, drop, take}
use Rattle.std.specs.Prelude.{slice_get}
use Rattle.lc_record.specs.declared.geometry.Geometry.{Geometry}
use Rattle.lc_rest.specs.Parts.{KeepsLog}
use Rattle.lc_reading.specs.ReadNodes.{AreReadNodes}
use Rattle.lc_rest.specs.declared.node_part.NodePart.{NodePart}
use Rattle.lc_reading.proofs.read_nodes.ReadNodes.read.Given as goal

abbrev pub invariant-loop : goal.invariant-loop
invariant-loop g l = record {
  rest : l.parts.items ≡ drop l.counter l.fn.parts.items;
  read : (geometry : Geometry) → ((n : ℕ) (part : NodePart g.row.D.Denot g.D.Area) → slice_get l.fn.parts.items n ≡ Some part → KeepsLog g.D.Area geometry part)
      → AreReadNodes g.D.Area geometry.words (take l.counter l.fn.parts.items) l.nodes;
}

use Rattle.std.proofs.Common.{ℕ, ◌<◌, map}
use Rattle.lc_reading.specs.Readings.{KeepsAt}
use Rattle.lc_journal.specs.declared.node_piece.NodePiece.{NodePiece}
use Rattle.lc_reading.proofs.read_parts.ReadParts.foreign_node.Given as goal

abbrev pub invariant-loop-node : goal.invariant-loop-node
invariant-loop-node g l = (n : ℕ) → n < l.node → KeepsAt l.self (map (λ (piece : NodePiece g.row.D.Denot g.D.Area). piece.known) l.pieces) n

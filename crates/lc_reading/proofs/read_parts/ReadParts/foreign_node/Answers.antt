use Rattle.std.proofs.Common.{ℕ, ◌<◌, [], List, below_more, map, length, true≢false, sym, ◌∙◌, subst, arith}
use Rattle.std.proofs.lemmas.List.{get_or-map}
use Rattle.lc_reading.specs.Readings.{KeepsAt, KeepsNode}
use Rattle.lc_journal.specs.declared.node_piece.NodePiece.{NodePiece}
use Rattle.lc_reading.proofs.read_parts.ReadParts.foreign_node.Goals as goal

pub loop-node-preserved : goal.loop-node-preserved
loop-node-preserved g c =
    let r = c.args.self.now in
    let pieces = c.args.pieces.now in
    let node = c.loop-node.node in
    let known = λ (piece : NodePiece g.row.D.Denot g.D.Area). piece.known in
    let within : node < length pieces = omega (arith, c.loop-node-test.true, c.requires) in
    below_more (KeepsAt r (map known pieces)) node c.loop-node.invariant
    (subst (λ (l : List ℕ). KeepsNode r l node) (sym (get_or-map known pieces node c.index-pieces-node.result [] within)) (c.keeps_node.ensures.0 c.if-not-keeps_node.false))

pub returns-then-not-keeps_node-clause-some : goal.returns-then-not-keeps_node-clause-some
returns-then-not-keeps_node-clause-some g c =
    let r = c.args.self.now in
    let pieces = c.args.pieces.now in
    let node = c.loop-node.node in
    let known = λ (piece : NodePiece g.row.D.Denot g.D.Area). piece.known in
    let within : node < length pieces = omega (arith, c.loop-node-test.true, c.requires) in (
      c.loop-node-test.true,
      record {
        from = omega arith;
        before = λ other least less. c.loop-node.invariant other less;
        fails = λ keeps. true≢false (sym (c.keeps_node.ensures.1 (subst (λ (l : List ℕ). KeepsNode r l node) (get_or-map known pieces node c.index-pieces-node.result [] within) keeps)) ∙ c.if-not-keeps_node.true);
      },
    )

pub returns-clause-none : goal.returns-clause-none
returns-clause-none g c = λ n less. c.loop-node.invariant n (omega (arith, less, c.loop-node-test.false))

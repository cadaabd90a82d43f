use Rattle.std.proofs.Common.{ℕ, [], List, map, inr, sym, subst}
use Rattle.lc_rest.specs.AtRest.{AllKeepTokens, AreMerged}
use Rattle.lc_reading.specs.Readings.{AllKeepAt, FailsIn, tests_of}
use Rattle.lc_journal.specs.declared.node_piece.NodePiece.{NodePiece}
use Rattle.lc_rest.specs.declared.cluster_part.ClusterPart.TheVariants.{Log, Image}
use Rattle.lc_reading.proofs.SameFaults.{same_part}
use Rattle.lc_reading.proofs.read_parts.ReadParts.contents.Goals as goal

pub order-requires-clause-own : goal.order-requires-clause-own
order-requires-clause-own g c = λ n less. (c.in_default.ensures.none n less).own

pub returns-in-Err-2-clause-mismatch : goal.returns-in-Err-2-clause-mismatch
returns-in-Err-2-clause-mismatch g c = λ part is.
    (let r = c.args.self.now in
    let knowns = map (λ (piece : NodePiece g.row.D.Denot g.D.Area). piece.known) c.args.pieces.now in
    let own : AllKeepAt r knowns = c.in_default.ensures.none in
    let tokens : AllKeepTokens (tests_of r []) = rw c.in-Ok.is at c.in_ok-numbers.ensures.keeps in
    let stuck = rw c.in-Err-2.is at c.in_ok-order.ensures.stuck in
    subst (FailsIn r knowns c.args.nodes.now) (same_part (Log c.in-Err-2.node) part is) (stuck.0, inr (own, tokens, stuck.1)))

pub test_images-requires-clause-merged : goal.test_images-requires-clause-merged
test_images-requires-clause-merged g c =
    subst (λ (l : List ℕ). AreMerged (tests_of c.args.self.now l)) (sym c.as_slice-3.ensures.value) (rw c.in-Ok-2.is at c.in_ok-order.ensures.merged)

pub returns-in-Ok-3-clause-passes : goal.returns-in-Ok-3-clause-passes
returns-in-Ok-3-clause-passes g c =
    let r = c.args.self.now in
    let turns = c.as_slice-3.result.now in (
      turns,
      record {
        own = c.in_default.ensures.none;
        tokens = rw c.in-Ok.is at c.in_ok-numbers.ensures.keeps;
        merged_all = subst (λ (l : List ℕ). AreMerged (tests_of r l)) (sym c.as_slice-3.ensures.value) (rw c.in-Ok-2.is at c.in_ok-order.ensures.merged);
        pictures = rw c.in-Ok-3.is at c.in_ok-contents.ensures.keeps;
      },
      rw c.in-Ok-3.is at c.in_ok-contents.ensures.pieces,
    )

pub returns-clause-mismatch : goal.returns-clause-mismatch
returns-clause-mismatch g c = λ part is.
    (let r = c.args.self.now in
    let knowns = map (λ (piece : NodePiece g.row.D.Denot g.D.Area). piece.known) c.args.pieces.now in
    let own : AllKeepAt r knowns = c.in_default.ensures.none in
    let tokens : AllKeepTokens (tests_of r []) = rw c.in-Ok.is at c.in_ok-numbers.ensures.keeps in
    let merged : AreMerged (tests_of r c.as_slice-3.result.now) = subst (λ (l : List ℕ). AreMerged (tests_of r l)) (sym c.as_slice-3.ensures.value) (rw c.in-Ok-2.is at c.in_ok-order.ensures.merged) in
    let fails = rw c.in-Err-3.is at c.in_ok-contents.ensures.fails in
    subst (FailsIn r knowns c.args.nodes.now) (same_part (Image c.in-Err-3.segment) part is) (fails.0, own, tokens, (c.as_slice-3.result.now, merged, fails.1)))

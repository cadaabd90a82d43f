use Rattle.std.proofs.Common.{◌*◌, List, length, ap, subst, arith}
use Rattle.std.specs.Prelude.{Some}
use Rattle.std.proofs.lemmas.List.{length-map}
use Rattle.lc_record.specs.declared.geometry.Geometry.{Geometry}
use Rattle.lc_token.specs.declared.token.Token.{Token}
use Rattle.lc_core.specs.Cluster.{knowns_of}
use Rattle.lc_core.specs.Made.{AreSegments}
use Rattle.lc_core.specs.Pieces.{AreNodePieces}
use Rattle.lc_desk.specs.Pieces.{AreTokens}
use Rattle.lc_reading.specs.Readings.{FailsIn, PassesIn}
use Rattle.lc_reading.specs.declared.node_images.NodeImages.{NodeImages}
use Rattle.lc_journal.specs.declared.node_piece.NodePiece.{NodePiece}
use Rattle.lc_core.proofs.ClusterReads.{tokens_stand}
use Rattle.lc_core.proofs.SameFaults.{same_fault}
use Rattle.lc_core.proofs.read_cluster.ReadCluster.build.Goals as goal

pub returns-in_err-contents-clause-mismatch : goal.returns-in_err-contents-clause-mismatch
returns-in_err-contents-clause-mismatch g c = λ part is.
    (let fails = c.in_err-contents.ensures.mismatch part (same_fault c.from_residual.result c.in_err-contents.field-0.0 _ c.from_residual.ensures.1 is) in
    let P = λ (pieces : List (NodePiece g.row.D.Denot g.D.Area)) (images : List NodeImages). FailsIn c.args.self.read (knowns_of g.D.Area pieces) images part in
    subst (λ (l : List NodeImages). P c.args.self.pieces.items l) c.as_slice-2.ensures.value (subst (λ (l : List (NodePiece g.row.D.Denot g.D.Area)). P l c.as_slice-2.result.now) c.as_slice.ensures.value fails))

pub adopt-requires-clause-pieces : goal.adopt-requires-clause-pieces
adopt-requires-clause-pieces g c = subst (λ (s : Geometry). AreNodePieces g.D.Area s.words c.args.self.pieces.items) c.requires.geometry c.args.self.fit

pub adopt-requires-clause-all_tokens : goal.adopt-requires-clause-all_tokens
adopt-requires-clause-all_tokens g c =
    let r = c.args.self.read in
    let same = ap (λ (s : Geometry). s.segments) c.requires.geometry in
    omega (arith, same, ap length c.in_ok-tokens.ensures, length-map r.tokens.items (λ (token : Token). Some token), r.all_tokens, r.tokens.ok.0, c.in_ok-tokens.tokens.ok.0)

pub adopt-requires-clause-tokens : goal.adopt-requires-clause-tokens
adopt-requires-clause-tokens g c =
    subst (λ (s : Geometry). AreTokens s c.in_ok-tokens.tokens.items) c.requires.geometry
    (tokens_stand c.args.self.read _ c.in_ok-tokens.tokens.items c.in_ok-tokens.ensures c.in_ok-contents.ensures.passes.1.tokens)

pub adopt-requires-clause-lengths : goal.adopt-requires-clause-lengths
adopt-requires-clause-lengths g c = subst (λ (s : Geometry). AreSegments g.D.Area (2 * 272 * s.pages) c.args.self.areas.items) c.requires.geometry c.args.self.lengths

pub returns-clause-built : goal.returns-clause-built
returns-clause-built g c =
    let passes = c.in_ok-contents.ensures.passes in
    let P = λ (pieces : List (NodePiece g.row.D.Denot g.D.Area)) (images : List NodeImages). PassesIn c.args.self.read (knowns_of g.D.Area pieces) images passes.0 in (
      passes.0,
      subst (λ (l : List NodeImages). P c.args.self.pieces.items l) c.as_slice-2.ensures.value (subst (λ (l : List (NodePiece g.row.D.Denot g.D.Area)). P l c.as_slice-2.result.now) c.as_slice.ensures.value passes.1),
      record {
        contents = c.in_ok-contents.contents;
        tokens = c.in_ok-tokens.tokens.items;
        geometry = c.in_ok-contents.ensures.geometry;
        made = passes.2;
        tokens_are = c.in_ok-tokens.ensures;
        adopted = c.adopt.ensures.adopted;
      },
    )

use Rattle.std.proofs.Common.{refl, subst}
use Rattle.lc_record.specs.declared.geometry.Geometry.{Geometry}
use Rattle.lc_rest.specs.AtRest.{HasPart}
use Rattle.lc_rest.specs.declared.cluster_part.ClusterPart.TheVariants.{Seat}
use Rattle.lc_core.proofs.ClusterReads.{logs_whole}
use Rattle.lc_core.proofs.ReadOf.{all_pass, are_read, cluster_read, is_built, is_read, one_fails, one_of_cluster}
use Rattle.lc_core.proofs.SameFaults.{same_fault}
use Rattle.lc_core.proofs.world.World.adopt.Goals as goal

pub returns-in_err-cluster-clause-mismatch : goal.returns-in_err-cluster-clause-mismatch
returns-in_err-cluster-clause-mismatch g c = λ part is. absurd (c.in_err-cluster.ensures.agree part (same_fault c.from_residual-in_err-cluster.result c.in_err-cluster.field-0.0 _ c.from_residual-in_err-cluster.ensures.1 is))

pub returns-in_err-cluster-clause-within : goal.returns-in_err-cluster-clause-within
returns-in_err-cluster-clause-within g c = λ part is. absurd (c.in_err-cluster.ensures.agree part (same_fault c.from_residual-in_err-cluster.result c.in_err-cluster.field-0.0 _ c.from_residual-in_err-cluster.ensures.1 is))

pub returns-in_err-cluster-clause-no_seat : goal.returns-in_err-cluster-clause-no_seat
returns-in_err-cluster-clause-no_seat g c = λ node is. c.in_err-cluster.ensures.agree (Seat node) (same_fault c.from_residual-in_err-cluster.result c.in_err-cluster.field-0.0 _ c.from_residual-in_err-cluster.ensures.1 is)

pub returns-in_err-cluster-clause-device : goal.returns-in_err-cluster-clause-device
returns-in_err-cluster-clause-device g c = λ is. c.in_err-cluster.ensures.device (same_fault c.from_residual-in_err-cluster.result c.in_err-cluster.field-0.0 _ c.from_residual-in_err-cluster.ensures.1 is)

pub build-requires-clause-whole : goal.build-requires-clause-whole
build-requires-clause-whole g c = logs_whole g.D.Area c.args.parts c.requires.kept _ c.in_ok-cluster.ensures.read.nodes

pub returns-in_err-up-clause-mismatch : goal.returns-in_err-up-clause-mismatch
returns-in_err-up-clause-mismatch g c = λ part is honest.
    (let a = g.D.Area in
    let parts = c.args.parts in
    let kept = c.requires.kept in
    let cluster = c.in_ok-cluster.cluster in
    let its = c.in_ok-cluster.ensures.read in
    let fails = one_fails a parts kept cluster its part (c.in_err-up.ensures.mismatch part (same_fault c.from_residual-in_err-up.result c.in_err-up.field-0.0 _ c.from_residual-in_err-up.ensures.1 is)) in
    (cluster_read a cluster fails.0, is_read a parts kept cluster its fails.0, are_read a parts kept cluster its fails.0 honest, fails.1))

pub returns-in_err-up-clause-within : goal.returns-in_err-up-clause-within
returns-in_err-up-clause-within g c = λ part is.
    subst (λ (shape : Geometry). HasPart shape part) c.in_ok-cluster.ensures.read.geometry
    (one_of_cluster _ _ _ part (c.in_err-up.ensures.mismatch part (same_fault c.from_residual-in_err-up.result c.in_err-up.field-0.0 _ c.from_residual-in_err-up.ensures.1 is)))

pub returns-in_err-up-clause-no_seat : goal.returns-in_err-up-clause-no_seat
returns-in_err-up-clause-no_seat g c = λ node is. c.in_err-up.ensures.mismatch (Seat node) (same_fault c.from_residual-in_err-up.result c.in_err-up.field-0.0 _ c.from_residual-in_err-up.ensures.1 is)

pub returns-clause-agree : goal.returns-clause-agree
returns-clause-agree g c = λ honest.
    (let a = g.D.Area in
    let parts = c.args.parts in
    let kept = c.requires.kept in
    let cluster = c.in_ok-cluster.cluster in
    let its = c.in_ok-cluster.ensures.read in
    let built = c.in_ok-up.ensures.built in
    (cluster_read a cluster built.0, is_read a parts kept cluster its built.0, are_read a parts kept cluster its built.0 honest, all_pass a parts kept cluster its built.0 built.1))

pub returns-clause-adopted : goal.returns-clause-adopted
returns-clause-adopted g c =
    let a = g.D.Area in
    let parts = c.args.parts in
    let kept = c.requires.kept in
    let cluster = c.in_ok-cluster.cluster in
    let its = c.in_ok-cluster.ensures.read in
    let built = c.in_ok-up.ensures.built in
    c.adopted_parts.ensures parts (cluster_read a cluster built.0) built.2.contents built.2.tokens cluster.pieces.items cluster.areas.items c.in_ok-up.up _ kept (is_read a parts kept cluster its built.0)
    (all_pass a parts kept cluster its built.0 built.1) (are_read a parts kept cluster its built.0) (is_built a parts kept cluster its built.0 c.in_ok-up.up built.2) built.2.adopted refl

use Rattle.std.proofs.Common.{◌<◌, Bool, true, false, Err, ap, subst, ◌∙◌, arith}
use Rattle.std.proofs.lemmas.Result.{err_from_is_err_and}
use Rattle.std.specs.Prelude.{is_ok}
use Rattle.lc_record.specs.declared.geometry.Geometry.{Geometry}
use Rattle.lc_recover.specs.Recovery.{IsReadFrom}
use Rattle.lc_journal.specs.declared.show_fault.ShowFault.{ShowFault}
use Rattle.lc_core.proofs.Geometries.{down_nodes}
use Rattle.lc_core.proofs.LogReads.{down_bytes, down_read, log_length, not_read}
use Rattle.lc_core.proofs.looks.log_bytes_of.Goals as goal

pub read-requires-clause-within : goal.read-requires-clause-within
read-requires-clause-within g c d there =
    let below : c.args.node < c.args.recovery.now.geometry.nodes = omega (arith, c.if-node-geometry.false, ap (λ (geometry : Geometry). geometry.nodes) c.geometry-geometry.ensures.geometry) in
    let r = c.args.recovery.now in
    let long = log_length g.D.Area r c.args.node d c.geometry-geometry.ensures.lengths below there in
    omega (arith, long, c.log_len.ensures, c.as_mut_slice.ensures.len, c.in_ok-bytes.ensures.len, ap (λ (geometry : Geometry). geometry.words) c.geometry-geometry.ensures.geometry)

pub returns-in_err-bytes-clause-read : goal.returns-in_err-bytes-clause-read
returns-in_err-bytes-clause-read g c area there =
    let p = err_from_is_err_and c.from_residual.result c.from_residual.ensures.1 in
    rw (p.1 ∙ ap (λ (fault : ShowFault). Err fault) p.2) ((λ no. absurd cc), not_read g.D.Area c.args.node area _ there)

pub returns-in_err-read-clause-read : goal.returns-in_err-read-clause-read
returns-in_err-read-clause-read g c area there =
    let below : c.args.node < c.args.recovery.now.geometry.nodes = omega (arith, c.if-node-geometry.false, ap (λ (geometry : Geometry). geometry.nodes) c.geometry-geometry.ensures.geometry) in
    let p = err_from_is_err_and c.from_residual-in_err-read.result c.from_residual-in_err-read.ensures.1 in
    rw (p.1 ∙ ap (λ (fault : ShowFault). Err fault) p.2) (
      (λ no. absurd cc),
      down_read g.D.Area c.args.recovery.now c.read.new.self c.args.node 0 _ _ (is_ok c.read.result) true c.read.ensures.read c.read.ensures.same c.geometry-geometry.ensures.lengths
          c.read.ensures.lengths below (ap is_ok c.in_err-read.was) area there,
    )

pub returns-clause-read : goal.returns-clause-read
returns-clause-read g c area there =
    let below : c.args.node < c.args.recovery.now.geometry.nodes = omega (arith, c.if-node-geometry.false, ap (λ (geometry : Geometry). geometry.nodes) c.geometry-geometry.ensures.geometry) in (
      (λ no. absurd cc),
      down_read g.D.Area c.args.recovery.now c.read.new.self c.args.node 0 _ _ (is_ok c.read.result) false c.read.ensures.read c.read.ensures.same c.geometry-geometry.ensures.lengths
          c.read.ensures.lengths below (ap is_ok c.in_ok-read.was) area there,
    )

pub returns-clause-bytes : goal.returns-clause-bytes
returns-clause-bytes g c area there honest =
    let below : c.args.node < c.args.recovery.now.geometry.nodes = omega (arith, c.if-node-geometry.false, ap (λ (geometry : Geometry). geometry.nodes) c.geometry-geometry.ensures.geometry) in
    let r = c.args.recovery.now in
    let read = subst (λ (ok : Bool). IsReadFrom g.D.Area c.args.node 0 c.as_mut_slice.result.now c.read.new.buffer r.areas c.read.new.self.areas ok) (ap is_ok c.in_ok-read.was) c.read.ensures.read in
    down_bytes g.D.Area r c.args.node c.in_ok-bytes.bytes.len c.as_mut_slice.result.now c.read.new.buffer _ c.read.new.self.areas read c.geometry-geometry.ensures.lengths below
    c.as_mut_slice.ensures.len
    (omega (arith, c.log_len.ensures, c.in_ok-bytes.ensures.len, ap (λ (geometry : Geometry). geometry.words) c.geometry-geometry.ensures.geometry))
    area there honest

pub returns-then-node-geometry-clause-nodes : goal.returns-then-node-geometry-clause-nodes
returns-then-node-geometry-clause-nodes g c = down_nodes g.D.Area c.args.recovery.now c.args.node c.geometry-geometry.ensures.lengths

pub returns-in_err-bytes-clause-nodes : goal.returns-in_err-bytes-clause-nodes
returns-in_err-bytes-clause-nodes g c = down_nodes g.D.Area c.args.recovery.now c.args.node c.geometry-geometry.ensures.lengths

pub returns-in_err-read-clause-nodes : goal.returns-in_err-read-clause-nodes
returns-in_err-read-clause-nodes g c = down_nodes g.D.Area c.args.recovery.now c.args.node c.geometry-geometry.ensures.lengths

pub returns-clause-nodes : goal.returns-clause-nodes
returns-clause-nodes g c = down_nodes g.D.Area c.args.recovery.now c.args.node c.geometry-geometry.ensures.lengths

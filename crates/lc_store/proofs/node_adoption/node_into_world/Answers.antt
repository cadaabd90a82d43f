use Rattle.std.proofs.Common.{inl, inr, sym, subst, ◌∙◌, ap, refl}
use Rattle.std.specs.Prelude.{IfErr, slice_get}
use Rattle.std.proofs.lemmas.Result.{err_from_is_err_and}
use Rattle.lc_log_side.specs.LeftBy.{AreReceived}
use Rattle.lc_log_side.proofs.Refused.{handed_on}
use Rattle.lc_store.specs.Refusals.{StopsAdoption, StopsCluster}
use Rattle.lc_store.proofs.OneNode.{first_alone}
use Rattle.lc_store.proofs.Refused.{of_adopted}
use Rattle.lc_store.proofs.node_adoption.node_into_world.Goals as goal

pub returns-in_err-parts-clause-which : goal.returns-in_err-parts-clause-which
returns-in_err-parts-clause-which g c =
    handed_on c.from_residual.result c.in_err-parts.field-0.0 (StopsCluster g.D.Area c.args.node.geometry) c.from_residual.ensures.1 (inl c.in_err-parts.ensures.refused)

pub returns-in_err-adopt-clause-which : goal.returns-in_err-adopt-clause-which
returns-in_err-adopt-clause-which g c =
    let p = err_from_is_err_and c.from_residual-in_err-adopt.result c.from_residual-in_err-adopt.ensures.1 in
    let its = c.in_err-adopt.ensures in
    subst (λ r. IfErr r (StopsCluster g.D.Area c.args.node.geometry)) (sym p.1) (inr (record {
      parts = c.in_ok-parts.parts;
      geometry = c.in_ok-parts.ensures.geometry;
      kept = c.in_ok-parts.ensures.kept;
      stops = subst (StopsAdoption g.D.Area c.in_ok-parts.parts) (sym p.2) (of_adopted g.D.Area c.in_ok-parts.parts c.in_err-adopt.field-0.0 its.within its.mismatch its.device);
    }))

pub returns-clause-adopted : goal.returns-clause-adopted
returns-clause-adopted g c =
    record {
      parts = c.in_ok-parts.parts;
      geometry = c.in_ok-parts.ensures.geometry;
      kept = c.in_ok-parts.ensures.kept;
      each = sym (c.args.node.alone c.requires.alone).1;
      adoption = c.in_ok-adopt.ensures.adopted;
      received = λ node part mine got mine_is.
          (let only = first_alone c.args.seats mine node mine_is in
          subst (λ seats. AreReceived part.round part.stable.items part.known seats.items) only.1
          (c.in_ok-parts.ensures.received part (ap (λ k. slice_get c.in_ok-parts.parts.nodes.items k) (sym only.0) ∙ got)));
    }

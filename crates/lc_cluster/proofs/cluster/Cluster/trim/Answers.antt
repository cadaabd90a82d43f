use Rattle.std.proofs.Common.{◌≡◌, ℕ, ap, get_or, set, sym, subst, ◌∙◌, inl, inr, arith}
use Rattle.std.proofs.lemmas.Bool.{cases_lt}
use Rattle.std.proofs.lemmas.List.{get_or-set_same, get_or-set_other, length-set}
use Rattle.lc_node.specs.declared.node.Node.{Node}
use Rattle.lc_cluster.specs.Forgetting.{IsLeastApplied}
use Rattle.lc_cluster.proofs.cluster.Cluster.trim.Goals as goal

pub loop-place-preserved : goal.loop-place-preserved
loop-place-preserved g c =
    let inv = c.loop-place.invariant in
    let cluster = c.args.self.now in
    let at : ℕ = c.loop-place.place in
    let now = set c.loop-place.applied at c.least_applied.result in
    record {
      long = length-set c.loop-place.applied at c.least_applied.result ∙ inv.long;
      least = λ place within. elim (cases_lt place at) [
        | inl low ↦ subst (IsLeastApplied cluster place) (sym (get_or-set_other c.loop-place.applied at place c.least_applied.result 0 (λ e. absurd (omega (arith, e, low))))) (inv.least place low)
        | inr high ↦ (let same : at ≡ place = omega (arith, within, high) in
            subst (λ (k : ℕ). IsLeastApplied cluster k (get_or now k 0)) same
            (subst (IsLeastApplied cluster at) (sym (get_or-set_same c.loop-place.applied at c.least_applied.result 0 (let less = c.loop-place-test.true in let few = cluster.geometry.few_segments in let long = inv.long in omega (arith, less, few, long)))) c.least_applied.ensures))
      ];
    }

pub returns : goal.returns
returns g c = let its_stage = ap (λ (n : Node g.row.D.Denot). n.stage.table.shared.table_id) c.node.ensures in record {
  member = c.member.result.now;
  at = c.member.ensures.member;
  applied = c.loop-place.applied;
  least = λ place within. c.loop-place.invariant.least place (let end = c.loop-place-test.false in omega (arith, end, within));
  old = c.lock-log.result.0;
  own = (c.lock-log.ensures.fits.0 ∙ c.log_lock-log_lock.ensures ∙ its_stage, c.lock-log.ensures.fits.1 ∙ c.log_lock-log_lock.ensures ∙ its_stage);
  new = c.trim-count.new.log;
  dropped = c.lock-loan.result.0.numbers;
  after = c.trim-count.new.dropped;
  trims = c.trim-count.ensures.trimmed;
}

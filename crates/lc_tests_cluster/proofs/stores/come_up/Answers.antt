use Rattle.std.proofs.Common.{All, sym, subst, ◌∙◌, arith}
use Rattle.lc_cluster.specs.Cluster.{IsSeatAt}
use Rattle.lc_cluster.specs.LeftBy.{AreOwnSeats}
use Rattle.lc_tests_cluster.proofs.stores.come_up.Goals as goal

pub into_world-requires : goal.into_world-requires
into_world-requires g c = record {
  own = record {
    count = c.in-Ok.ensures.count ∙ c.nodes.ensures;
    own = λ node mine got. subst (All (IsSeatAt c.args.cluster node)) (sym (c.in-Ok.ensures.none node mine got)) (λ k d within. absurd (omega (arith, within)));
  };
}

use Rattle.std.proofs.Common.{rules, ◌≡◌, subst, ◌∙◌}
use Rattle.lc_stage.specs.Seats.{commit_view}
use Rattle.lc_stage.specs.declared.stage_view.StageView.{StageView}
use Rattle.lc_node.specs.declared.node.Node.{Node}
use Rattle.lc_committer.specs.Records.{ConfirmsIn}
use Rattle.lc_committer.proofs.committer.Committer.confirm.Goals as goal

pub returns-clause-confirms : goal.returns-clause-confirms
returns-clause-confirms g c =
    let at : c.self.inside.node.now ≡ c.args.self.now.node = search rules in
    let seen : commit_view c.take_out-seat.result ≡ c.args.self.now.view = search rules in
    subst (λ (p : Node g.row.D.Denot × StageView). ConfirmsIn p.0 p.1 c.args.receipt c.confirm-seat.result.1) (λ k. (at k, seen k)) (record {
      log = c.lock-log.result.0;
      own = (c.lock-log.ensures.fits.0 ∙ c.log_lock-lock.ensures, c.lock-log.ensures.fits.1 ∙ c.log_lock-lock.ensures);
      here = c.confirm-seat.ensures.here;
      earlier = c.confirm-seat.ensures.earlier;
    })

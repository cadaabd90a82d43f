use Rattle.std.proofs.Common.{rules, ◌≡◌, subst, ◌∙◌}
use Rattle.std.specs.Prelude.{IfErr}
use Rattle.lc_stage.specs.Seats.{commit_view}
use Rattle.lc_stage.specs.declared.stage_view.StageView.{StageView}
use Rattle.lc_log_side.specs.Receipts.{IsOfDevice, Learns, Receives}
use Rattle.lc_committer.proofs.KeptReceipts.{settling}
use Rattle.lc_committer.proofs.committer.Committer.settle.Goals as goal

pub returns-clause-settled : goal.returns-clause-settled
returns-clause-settled g c = λ receipt is.
    let seen : commit_view c.take_out-seat.result ≡ c.args.self.now.view = search rules in
    subst (λ (v : StageView). Receives v receipt (commit_view c.settle_last-seat.result.0)) seen (c.settle_last-seat.ensures.settled receipt is)

pub returns-clause-refused : goal.returns-clause-refused
returns-clause-refused g c =
    let seen : commit_view c.take_out-seat.result ≡ c.args.self.now.view = search rules in
    subst (λ (v : StageView). IfErr c.settle_last-seat.result.1 (λ fault. IsOfDevice fault × Learns v (commit_view c.settle_last-seat.result.0))) seen c.settle_last-seat.ensures.refused

pub returns-clause-keeps : goal.returns-clause-keeps
returns-clause-keeps g c =
    let seen : commit_view c.take_out-seat.result ≡ c.args.self.now.view = search rules in
    settling c.args.self.now.view (commit_view c.settle_last-seat.result.0) c.settle_last-seat.result.1 (λ is. c.settle_last-seat.ensures.same is ∙ seen) (returns-clause-settled g c) (returns-clause-refused g c)

use Rattle.std.proofs.Common.{rules, ◌≡◌, subst}
use Rattle.lc_stage.specs.Seats.{commit_view}
use Rattle.lc_stage.specs.declared.stage_view.StageView.{StageView}
use Rattle.lc_node.specs.MakingRoom.{TransactsInRoom}
use Rattle.lc_node.specs.declared.node.Node.{Node}
use Rattle.lc_committer.specs.declared.committing.TheConstants.{TRIES}
use Rattle.lc_committer.proofs.KeptReceipts.{transacting}
use Rattle.lc_committer.proofs.committer.Committer.commit.Goals as goal

pub returns-clause-transacts : goal.returns-clause-transacts
returns-clause-transacts g c =
    let at : c.self.inside.node.now ≡ c.args.self.now.node = search rules in
    let seen : commit_view c.take_out-seat.result ≡ c.args.self.now.view = search rules in
    subst (λ (p : Node g.row.D.Denot × StageView). TransactsInRoom g.D.Area p.0 g.W.Work.ran TRIES c.args.segments.now c.args.mode c.args.work.now c.transact_in_room-seat.new.work p.1 (commit_view c.transact_in_room-seat.result.0) c.transact_in_room-seat.result.1) (λ k. (at k, seen k))
    c.transact_in_room-seat.ensures.transacts

pub returns-clause-keeps : goal.returns-clause-keeps
returns-clause-keeps g c =
    transacting g.D.Area c.args.self.now.node g.W.Work.ran TRIES c.args.segments.now c.args.mode c.args.work.now c.transact_in_room-seat.new.work c.args.self.now.view (commit_view c.transact_in_room-seat.result.0) c.transact_in_room-seat.result.1 (returns-clause-transacts g c)

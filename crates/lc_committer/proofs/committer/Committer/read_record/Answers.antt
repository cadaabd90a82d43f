use Rattle.std.proofs.Common.{rules, ◌≡◌, ℕ, List, length, sym, ap, subst, ◌∙◌}
use Rattle.std.specs.Global.{Vec}
use Rattle.lc_stage.specs.Seats.{commit_view}
use Rattle.lc_stage.specs.declared.stage_view.StageView.{StageView}
use Rattle.lc_log_side.specs.Among.{IsAmong}
use Rattle.lc_log_side.specs.LogView.{LogView}
use Rattle.lc_node.specs.declared.node.Node.{Node}
use Rattle.lc_committer.specs.Records.{ReadsIn}
use Rattle.lc_committer.proofs.ReadBack.{apart, copied}
use Rattle.lc_committer.proofs.committer.Committer.read_record.Goals as goal
use Rattle.lc_committer.proofs.committer.Committer.read_record.Goals.{in-Here, in-Earlier}

pub returns-clause-reads : goal.returns-clause-reads
returns-clause-reads g c =
    let at : c.self.inside.node.now ≡ c.args.self.now.node = search rules in
    let seen : commit_view c.take_out-seat.result ≡ c.args.self.now.view = search rules in
    let e = c.confirm-seat.ensures in
    subst (λ (p : Node g.row.D.Denot × StageView). ReadsIn p.0 p.1 c.args.receipt c.args.words.now.items c.confirm-seat.result.1 c.match-confirmed.words.items) (λ k. (at k, seen k)) (record {
      confirms = record {
        log = c.lock-log.result.0;
        own = (c.lock-log.ensures.fits.0 ∙ c.log_lock-lock.ensures, c.lock-log.ensures.fits.1 ∙ c.log_lock-lock.ensures);
        here = e.here;
        earlier = e.earlier;
      };
      words = elim c.match-confirmed.branch [
        | in-Here w ↦ copied (commit_view c.take_out-seat.result) c.args.receipt c.lock-log.result.0 c.confirm-seat.result.1 e.here e.earlier c.confirm-seat.new.log.stable c.match-confirmed.words.items (ap (λ (l : LogView g.row.D.Denot). l.stable) e.log.1.1)
            (subst (λ (z : Vec ℕ). (index : ℕ) (record_words : List ℕ) → IsAmong c.confirm-seat.new.log.stable index c.args.receipt.place record_words → c.args.receipt.words ≡ length record_words → z.items ≡ record_words) (sym w.words-is) w.copy_record.ensures)
        | in-Earlier w ↦ λ index is. absurd (apart c.confirm-seat.result.1 index w.in-Earlier.round is w.in-Earlier.is)
      ];
      left = elim c.match-confirmed.branch [
        | in-Here w ↦ λ round is. absurd (apart c.confirm-seat.result.1 w.in-Here.field-0 round w.in-Here.is is)
        | in-Earlier w ↦ λ round is. ap (λ (z : Vec ℕ). z.items) w.words-is ∙ c.make_room.ensures.same
      ];
    })

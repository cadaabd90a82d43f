use Rattle.std.proofs.Common.{◌≡◌, ◌<◌, length, ap, ◌∙◌, arith}
use Rattle.std.proofs.lemmas.Result.{IfOk-weaker, on_err_weaker}
use Rattle.lc_lock.specs.Loans.{key_of}
use Rattle.lc_node.specs.declared.node.Node.{Node}
use Rattle.lc_cluster.specs.Calls.{SpreadsAt}
use Rattle.lc_log_side.specs.Published.{published}
use Rattle.lc_cluster.specs.Spread.{Spreads, line_of}
use Rattle.lc_cluster.proofs.Called.{spreads_of}
use Rattle.lc_cluster.proofs.KeysKept.{as_many}
use Rattle.lc_cluster.proofs.cluster.Cluster.spread.Goals as goal

pub spread-spread-requires : goal.spread-spread-requires
spread-spread-requires g c =
    let wired = (key_of c.member-member.result.now.to).to.ends in
    let few = c.args.self.now.few in let peers = c.member-member.ensures.peers.0 in let ok = wired.ok.0 in let mine = c.args.self.now.members.ok.0 in
    let many : length c.lock-ends.result.0.ends.items ≡ length wired.items = as_many line_of wired.items c.lock-ends.result.0.ends.items c.lock-ends.ensures.fits in
    record { few = omega arith }

pub returns-clause-spread : goal.returns-clause-spread
returns-clause-spread g c =
    let its_stage = ap (λ (n : Node g.row.D.Denot). n.stage.table.shared.table_id) c.node.ensures in
    let log = c.lock-log.result.0 in let old = c.lock-ends.result.0.ends.items in let new = c.spread-spread.new.self.ends.items in
    IfOk-weaker c.spread-spread.result (λ s. Spreads log.gone (published log) old s new) (λ s. SpreadsAt c.args.self.now c.args.node s) (λ s spreads. record {
      member = c.member-member.result.now;
      at = c.member-member.ensures.member;
      log = log;
      own = (c.lock-log.ensures.fits.0 ∙ c.log_lock-log_lock.ensures ∙ its_stage, c.lock-log.ensures.fits.1 ∙ c.log_lock-log_lock.ensures ∙ its_stage);
      old = old;
      wired = c.lock-ends.ensures.fits;
      new = new;
      spreads = spreads;
    }) (spreads_of log.gone (published log) old new c.spread-spread.result c.spread-spread.ensures.prefix c.spread-spread.ensures.each c.spread-spread.ensures.most c.spread-spread.ensures.sent c.spread-spread.ensures.left c.spread-spread.ensures.tokens c.spread-spread.ensures.lines)

pub returns-clause-memory : goal.returns-clause-memory
returns-clause-memory g c =
    let wired = (key_of c.member-member.result.now.to).to.ends in
    let peers = c.member-member.ensures.peers.0 in let ok = wired.ok.0 in
    let many : length c.lock-ends.result.0.ends.items ≡ length wired.items = as_many line_of wired.items c.lock-ends.result.0.ends.items c.lock-ends.ensures.fits in
    on_err_weaker c.spread-spread.result (λ (some : 0 < length c.lock-ends.result.0.ends.items). let more : 1 < length c.args.self.now.members.items = omega arith in more) c.spread-spread.ensures.memory

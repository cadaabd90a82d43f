use Rattle.std.proofs.Common.{ap, ◌∙◌}
use Rattle.lc_node.proofs.node.Node.settle_once.Goals as goal

pub returns-clause-settles : goal.returns-clause-settles
returns-clause-settles g c = let stage = c.args.self.now.one_stage in let probe = c.lock-log.ensures.fits.1 ∙ stage in record {
  log = c.lock-log.result.0;
  own = (c.lock-log.ensures.fits.0 ∙ stage, probe);
  new_log = c.settle-seat.new.self;
  new_own = (c.settle-seat.ensures.log.0, ap (λ p. p.seat.table_id) c.settle-seat.ensures.log.1 ∙ probe);
  settles = c.settle-seat.ensures.settles;
}

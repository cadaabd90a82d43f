use Rattle.std.proofs.Common.{◌∙◌}
use Rattle.lc_stage.specs.Seats.{commit_view}
use Rattle.lc_log_side.specs.Settling.{published_end}
use Rattle.lc_node.proofs.Settled.{looks_of}
use Rattle.lc_node.proofs.node.Node.durable.Goals as goal

pub returns-clause-looks : goal.returns-clause-looks
returns-clause-looks g c = let log = c.lock-log.result.0 in let stage = c.args.self.now.one_stage in record {
  log = log;
  own = (c.lock-log.ensures.fits.0 ∙ stage, c.lock-log.ensures.fits.1 ∙ stage);
  new_log = c.durable-seat.new.self;
  same = c.durable-seat.ensures.log.1;
  looks = looks_of (published_end log) (commit_view c.args.seat) (commit_view c.durable-seat.result.0) c.durable-seat.result.1 c.durable-seat.ensures.some c.durable-seat.ensures.none;
}

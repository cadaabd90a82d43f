use Rattle.std.proofs.Common.{rules}
use Rattle.lc_node.proofs.parting.send_off.Goals as goal

pub returns-in-Ok-clause-given : goal.returns-in-Ok-clause-given
returns-in-Ok-clause-given g c = λ is. (
  search rules,
  record {
    journey = c.in_ok-journey.journey;
    is_from = c.in_ok-journey.ensures.left;
    left = c.in_ok-journey.ensures.node;
    fits = c.in_ok-journey.ensures.fits;
    gone = c.in_ok-journey.ensures.gone;
    is_sent = c.in-Ok.ensures.sent;
  },
)

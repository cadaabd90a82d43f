use Rattle.std.proofs.Common.{inr, refl}
use Rattle.lc_store.proofs.running.node_on.Goals as goal

pub returns-clause-refuses : goal.returns-clause-refuses
returns-clause-refuses g c = inr (refl, (c.in_ok-recovered.recovered, c.in_ok-recovered.ensures.recovers))

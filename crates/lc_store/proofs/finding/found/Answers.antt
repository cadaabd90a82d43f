use Rattle.std.proofs.Common.{refl}
use Rattle.lc_store.proofs.finding.found.Goals as goal

pub returns-clause-size : goal.returns-clause-size
returns-clause-size g c honest = (c.in_ok-found.found, c.in_ok-found.ensures.found honest, record { nodes = refl; segments = refl; pages = refl; words = refl })

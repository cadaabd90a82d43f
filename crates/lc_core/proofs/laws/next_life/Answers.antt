use Rattle.lc_core.proofs.HeadlineHolds.{next_life}
use Rattle.lc_core.proofs.laws.next_life.Goals as goal

pub returns : goal.returns
returns g c = λ m numbers events replies failures w shape areas news h are stopped. next_life g.D.Area m numbers _ h.after areas news (h.leaves shape areas are).1 stopped

use Rattle.lc_page.proofs.WritingLemmas.{old_under_way, either_under_way, new_under_way}
use Rattle.lc_page.proofs.laws.page_under_way.Goals as goal

pub returns-clause-old : goal.returns-clause-old
returns-clause-old g c = old_under_way g.D.Area

pub returns-clause-either : goal.returns-clause-either
returns-clause-either g c = either_under_way g.D.Area

pub returns-clause-reads : goal.returns-clause-reads
returns-clause-reads g c = new_under_way g.D.Area

use Rattle.lc_page.proofs.WritingLemmas.{kept_under_way}
use Rattle.lc_page.proofs.laws.others_keep.Goals as goal

pub returns : goal.returns
returns g c = kept_under_way g.D.Area

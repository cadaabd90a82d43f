use Rattle.lc_recover.proofs.MergedPage.{page_merged, ranges_stand}
use Rattle.lc_recover.proofs.page_laws.page_merged.Goals as goal

pub returns : goal.returns
returns c = record { merged = page_merged; stand = ranges_stand }

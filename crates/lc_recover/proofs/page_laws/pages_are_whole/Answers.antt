use Rattle.lc_recover.proofs.WholePages.{taken_page_by_page}
use Rattle.lc_recover.proofs.page_laws.pages_are_whole.Goals as goal

pub returns : goal.returns
returns c = taken_page_by_page

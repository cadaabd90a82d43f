use Rattle.lc_recover.proofs.PagesOf.{are_listed, are_different, begin_with_the_first}
use Rattle.lc_recover.proofs.page_laws.pages_listed.Goals as goal

pub returns : goal.returns
returns c = record { listed = are_listed; once = are_different; first = begin_with_the_first }

use Rattle.lc_record.proofs.SpansLemmas.{give_ranges}
use Rattle.lc_record.proofs.laws.spans_give_ranges.Goals as goal

pub returns : goal.returns
returns c = give_ranges

use Rattle.lc_range.proofs.SetLemmas.{one_canonical}
use Rattle.lc_range.proofs.laws.one_canonical_list.Goals as goal

pub returns : goal.returns
returns c = one_canonical

use Rattle.std.proofs.Common.{◌∙◌}
use Rattle.lc_tx.proofs.SetLemmas.{any_is}
use Rattle.lc_tx.proofs.changing.is_among.Goals as goal

pub returns : goal.returns
returns c = c.contains.ensures.value ∙ any_is c.args.number c.args.numbers.now

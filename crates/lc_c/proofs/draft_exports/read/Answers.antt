use Rattle.lc_c.proofs.Drafted.{lent_same}
use Rattle.lc_c.proofs.draft_exports.read.Goals as goal

pub returns-clause-same : goal.returns-clause-same
returns-clause-same c = lent_same c.is_held.new.self c.args.handle.now c.get_mut.result.now c.is_held.ensures.1 c.get_mut.ensures.value

use Rattle.lc_c.proofs.Drafted.{lent_same}
use Rattle.lc_c.proofs.draft_exports.lcrvm_draft_next.Goals as goal

pub returns-in-Some-clause-same : goal.returns-in-Some-clause-same
returns-in-Some-clause-same c = lent_same c.is_held.new.self c.args.handle.now c.get_mut.result.now c.is_held.ensures.1 c.get_mut.ensures.value

pub returns-in-None-clause-same : goal.returns-in-None-clause-same
returns-in-None-clause-same c = lent_same c.is_held.new.self c.args.handle.now c.get_mut.result.now c.is_held.ensures.1 c.get_mut.ensures.value

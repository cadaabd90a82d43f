use Rattle.std.proofs.Common.{◌∙◌}
use Rattle.lc_c.proofs.Asked.{lent_same}
use Rattle.lc_c.proofs.handing_exports.lcrvm_session_lock_draft.Goals as goal

pub returns-clause-same : goal.returns-clause-same
returns-clause-same c = lent_same c.is_held.new.self c.args.handle.now c.lock_draft.new.session c.is_held.ensures.1 (c.lock_draft.ensures.same ∙ c.get_mut.ensures.value)

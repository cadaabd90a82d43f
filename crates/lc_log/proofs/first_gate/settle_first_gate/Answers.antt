use Rattle.std.proofs.Common.{◌≡◌, ◌∙◌, sym, true, []}
use Rattle.lc_record.proofs.ListLemmas.{OnOk_then as on_ok}
use Rattle.lc_log.proofs.StateLemmas.{rest_kept, rest_image}
use Rattle.lc_log.proofs.ResetLemmas.{reset_over}
use Rattle.lc_log.proofs.OneCalls.{sync_call}
use Rattle.lc_log.proofs.first_gate.settle_first_gate.Goals as goal

pub returns-clause-images : goal.returns-clause-images
returns-clause-images g c =
    on_ok c.sync.result c.sync.ensures.clean (λ clean records closing honest.
    let was : g.D.Area.honest c.args.area.now ≡ true = sym c.sync.ensures.honest ∙ honest in
    rest_image _ _ 0 [] (rest_kept _ _ _ _ 0 [] (c.sync.ensures.same was) (λ k e. e) (reset_over _ _ _ records (closing was) (clean was))))

pub returns-clause-call : goal.returns-clause-call
returns-clause-call g c = sync_call g.D.Area c.args.area.now c.sync.new.self c.sync.result c.sync.ensures.honest c.sync.ensures.len c.sync.ensures.called c.sync.ensures.counted c.sync.ensures.same c.sync.ensures.clean c.sync.ensures.same_dirty

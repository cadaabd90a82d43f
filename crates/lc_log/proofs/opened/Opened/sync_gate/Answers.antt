use Rattle.std.proofs.Common.{◌≡◌, ◌∙◌, ◌++◌, sym, true, Bool, ap, subst}
use Rattle.lc_log.proofs.StateLemmas.{group_flushed, rest_kept, opening_kept, rest_image, opening_image}
use Rattle.std.specs.Prelude.{is_ok}
use Rattle.lc_log.specs.OneCall.{IsOneCall}
use Rattle.lc_log.proofs.OneCalls.{sync_call}
use Rattle.lc_log.proofs.opened.Opened.sync_gate.Goals as goal

pub returns-in-Ok-clause-flushed : goal.returns-in-Ok-clause-flushed
returns-in-Ok-clause-flushed g c stable records opened honest =
    let was : g.D.Area.honest c.args.self.area ≡ true = sym c.sync.ensures.honest ∙ honest in
    let h = c.in-Ok.ensures in
    rest_kept _ _ _ _ _ _ (h.same was) (λ k e. e) (group_flushed _ (g.D.Area.now c.args.self.area) _ _ c.args.self.end stable c.args.self.words records (opened was) (h.clean was))

pub returns-in-Ok-clause-images : goal.returns-in-Ok-clause-images
returns-in-Ok-clause-images g c stable records opened honest =
    let was : g.D.Area.honest c.args.self.area ≡ true = sym c.sync.ensures.honest ∙ honest in
    let h = c.in-Ok.ensures in
    rest_image _ _ _ (stable ++ records) (rest_kept _ _ _ _ _ _ (h.same was) (λ k e. e) (group_flushed _ (g.D.Area.now c.args.self.area) _ _ c.args.self.end stable c.args.self.words records (opened was) (h.clean was)))

pub returns-in-Err-clause-failed : goal.returns-in-Err-clause-failed
returns-in-Err-clause-failed g c stable records opened honest =
    let was : g.D.Area.honest c.args.self.area ≡ true = sym c.sync.ensures.honest ∙ honest in
    let h = c.in-Err.ensures in
    opening_image _ _ _ c.args.self.end _ stable records
    (opening_kept _ _ _ _ c.args.self.end stable (h.same was) (λ k e. h.same_dirty was k ∙ e) 165 c.args.self.words records (opened was))

pub returns-in-Ok-clause-call : goal.returns-in-Ok-clause-call
returns-in-Ok-clause-call g c =
    subst (λ (ok : Bool). IsOneCall g.D.Area ok c.args.self.area c.sync.new.self) (ap is_ok c.in-Ok.is)
    (sync_call g.D.Area c.args.self.area c.sync.new.self c.sync.result c.sync.ensures.honest c.sync.ensures.len c.sync.ensures.called c.sync.ensures.counted c.sync.ensures.same c.sync.ensures.clean c.sync.ensures.same_dirty)

pub returns-in-Err-clause-call : goal.returns-in-Err-clause-call
returns-in-Err-clause-call g c =
    subst (λ (ok : Bool). IsOneCall g.D.Area ok c.args.self.area c.sync.new.self) (ap is_ok c.in-Err.is)
    (sync_call g.D.Area c.args.self.area c.sync.new.self c.sync.result c.sync.ensures.honest c.sync.ensures.len c.sync.ensures.called c.sync.ensures.counted c.sync.ensures.same c.sync.ensures.clean c.sync.ensures.same_dirty)

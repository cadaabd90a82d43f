use Rattle.std.proofs.Common.{◌≡◌, ◌∙◌, sym, true, Bool, ap, subst}
use Rattle.lc_log.proofs.StateLemmas.{rest_kept, staged_kept, rest_image}
use Rattle.std.specs.Prelude.{is_ok}
use Rattle.lc_log.specs.OneCall.{IsOneCall}
use Rattle.lc_log.proofs.OneCalls.{sync_call}
use Rattle.lc_log.proofs.written.Written.sync_group.Goals as goal

pub returns-in-Ok-clause-synced : goal.returns-in-Ok-clause-synced
returns-in-Ok-clause-synced g c stable records written honest =
    let was : g.D.Area.honest c.args.self.area ≡ true = sym c.sync.ensures.honest ∙ honest in
    let h = c.in-Ok.ensures in
    (staged_kept _ _ _ _ c.args.self.end stable (h.same was) (λ k _. h.clean was k) c.args.self.words records (written was), h.clean was)

pub returns-in-Ok-clause-images : goal.returns-in-Ok-clause-images
returns-in-Ok-clause-images g c stable records written honest =
    let was : g.D.Area.honest c.args.self.area ≡ true = sym c.sync.ensures.honest ∙ honest in
    let h = c.in-Ok.ensures in
    rest_image _ _ _ stable (rest_kept _ _ _ _ c.args.self.end stable (h.same was) (λ k _. h.clean was k) (written was).at_rest)

pub returns-in-Err-clause-failed : goal.returns-in-Err-clause-failed
returns-in-Err-clause-failed g c stable records written honest =
    let was : g.D.Area.honest c.args.self.area ≡ true = sym c.sync.ensures.honest ∙ honest in
    let h = c.in-Err.ensures in
    rest_image _ _ _ stable (rest_kept _ _ _ _ c.args.self.end stable (h.same was) (λ k e. h.same_dirty was k ∙ e) (written was).at_rest)

pub returns-in-Ok-clause-call : goal.returns-in-Ok-clause-call
returns-in-Ok-clause-call g c =
    subst (λ (ok : Bool). IsOneCall g.D.Area ok c.args.self.area c.sync.new.self) (ap is_ok c.in-Ok.is)
    (sync_call g.D.Area c.args.self.area c.sync.new.self c.sync.result c.sync.ensures.honest c.sync.ensures.len c.sync.ensures.called c.sync.ensures.counted c.sync.ensures.same c.sync.ensures.clean c.sync.ensures.same_dirty)

pub returns-in-Err-clause-call : goal.returns-in-Err-clause-call
returns-in-Err-clause-call g c =
    subst (λ (ok : Bool). IsOneCall g.D.Area ok c.args.self.area c.sync.new.self) (ap is_ok c.in-Err.is)
    (sync_call g.D.Area c.args.self.area c.sync.new.self c.sync.result c.sync.ensures.honest c.sync.ensures.len c.sync.ensures.called c.sync.ensures.counted c.sync.ensures.same c.sync.ensures.clean c.sync.ensures.same_dirty)

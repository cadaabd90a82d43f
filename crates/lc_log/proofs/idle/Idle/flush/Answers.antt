use Rattle.std.proofs.Common.{inl}
use Rattle.std.proofs.lemmas.Result.{IfOk-weaker, MatchResult-weaker, err_from_is_err_and}
use Rattle.lc_log.proofs.idle.Idle.flush.Goals as goal

pub returns-in_err-sync_group-clause-failed : goal.returns-in_err-sync_group-clause-failed
returns-in_err-sync_group-clause-failed g c =
    let p = err_from_is_err_and c.from_residual-in_err-sync_group.result c.from_residual-in_err-sync_group.ensures.1 in
    rw (p.1, p.2) (λ stable records idle is honest image of.
    inl (c.in_err-sync_group.ensures.failed stable records (c.in_ok-write_group.ensures.written stable records idle is) honest image of))

pub returns-in_err-open_gate-clause-failed : goal.returns-in_err-open_gate-clause-failed
returns-in_err-open_gate-clause-failed g c =
    let p = err_from_is_err_and c.from_residual-in_err-open_gate.result c.from_residual-in_err-open_gate.ensures.1 in
    rw (p.1, p.2) (λ stable records idle is.
    c.in_err-open_gate.ensures.failed stable records (c.in_ok-sync_group.ensures.synced stable records (c.in_ok-write_group.ensures.written stable records idle is)))

pub returns-clause-flushed : goal.returns-clause-flushed
returns-clause-flushed g c =
    IfOk-weaker c.sync_gate.result _ _ (λ i flushed stable records idle is.
    flushed stable records (c.in_ok-open_gate.ensures.opened stable records (c.in_ok-sync_group.ensures.synced stable records (c.in_ok-write_group.ensures.written stable records idle is))))
    c.sync_gate.ensures.flushed

pub returns-clause-images : goal.returns-clause-images
returns-clause-images g c =
    IfOk-weaker c.sync_gate.result _ _ (λ i images stable records idle is.
    images stable records (c.in_ok-open_gate.ensures.opened stable records (c.in_ok-sync_group.ensures.synced stable records (c.in_ok-write_group.ensures.written stable records idle is))))
    c.sync_gate.ensures.images

pub returns-clause-failed : goal.returns-clause-failed
returns-clause-failed g c =
    MatchResult-weaker c.sync_gate.result c.sync_gate.ensures.failed (λ _ t. t) (λ f failed stable records idle is.
    failed stable records (c.in_ok-open_gate.ensures.opened stable records (c.in_ok-sync_group.ensures.synced stable records (c.in_ok-write_group.ensures.written stable records idle is))))

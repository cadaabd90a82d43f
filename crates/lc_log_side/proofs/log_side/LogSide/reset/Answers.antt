use Rattle.std.proofs.Common.{rules, ◌≡◌, Err, sym, ap, subst, ◌∙◌}
use Rattle.std.specs.Prelude.{IfErr}
use Rattle.lc_log_side.specs.Resets.{CanReset, FailsToBegin}
use Rattle.lc_log_side.proofs.Unfit.{can_still, room_still, err_same, none_unclean, unclean_if, unclean_not_fault, unclean_not_lost}
use Rattle.lc_log_side.proofs.log_side.LogSide.reset.Goals as goal

pub returns-in_err-is_due-clause-unclean : goal.returns-in_err-is_due-clause-unclean
returns-in_err-is_due-clause-unclean g c = λ segment seq.
    let is : c.from_residual.result ≡ Err c.in_err-is_due.field-0.0 = search rules in
    let iff = unclean_if c.args.self.now c.in_err-is_due.field-0.0 c.in_err-is_due.ensures.refused segment seq in (
      (λ e. iff.0 (err_same _ _ (sym is ∙ e))),
      (λ first. is ∙ ap Err (iff.1 first)),
    )

pub returns-in_err-seal-clause-unclean : goal.returns-in_err-seal-clause-unclean
returns-in_err-seal-clause-unclean g c = λ segment seq.
    let is : c.from_residual-in_err-seal.result ≡ Err c.in_err-seal.field-0.0 = search rules in
    let lost = c.in_err-seal.ensures.lost in
    let can : CanReset c.args.self.now = search rules in (
      (λ e. absurd (unclean_not_lost segment seq lost.0 (sym (err_same _ _ (sym is ∙ e)) ∙ lost.1))),
      (λ first. absurd (none_unclean c.args.self.now can segment seq first)),
    )

pub begin_round-requires-clause-can : goal.begin_round-requires-clause-can
begin_round-requires-clause-can g c =
    let can : CanReset c.args.self.now = search rules in
    can_still c.args.self.now c.seal.new.self can c.in_ok-seal.ensures.sealed

pub begin_round-requires-clause-room : goal.begin_round-requires-clause-room
begin_round-requires-clause-room g c = room_still c.args.self.now c.seal.new.self c.requires.room c.in_ok-seal.ensures.sealed

pub returns-clause-published : goal.returns-clause-published
returns-clause-published g c = c.begin_round.ensures.published ∙ c.seal.ensures.published

pub returns-clause-unclean : goal.returns-clause-unclean
returns-clause-unclean g c = λ segment seq.
    let can : CanReset c.args.self.now = search rules in (
      (λ e. absurd (unclean_not_fault segment seq (subst (λ r. IfErr r (λ fault. FailsToBegin c.seal.new.self fault c.begin_round.new.self)) e c.begin_round.ensures.fails).0)),
      (λ first. absurd (none_unclean c.args.self.now can segment seq first)),
    )

use Rattle.std.proofs.Common.{◌≡◌, ◌∙◌, ℕ, Some, Ok, Err, refl, sym, ap, subst, arith}
use Rattle.std.proofs.lemmas.Result.{err_from_is_err_and}
use Rattle.lc_model.specs.declared.event.Event.TheVariants.{FlushStep}
use Rattle.lc_model.specs.declared.refusal.Refusal.{Refusal}
use Rattle.lc_model.specs.declared.reply.Reply.TheVariants.{Refused}
use Rattle.lc_events.specs.Answered.{flushed}
use Rattle.lc_core.specs.Truncating.{Repeats, StepsTo, ending}
use Rattle.lc_events.specs.declared.flush_progress.FlushProgress.{FlushProgress}
use Rattle.lc_events.specs.declared.flush_progress.FlushProgress.TheVariants.{Stepped as HasFlushed, Acked as HasAcked, Nothing as NoneToFlush}
use Rattle.lc_core.proofs.Truncations.{ends_here, goes_on, last_call}
use Rattle.lc_core.proofs.world.World.flush.Goals as goal

-- any other progress is the last
is_last : (progress : FlushProgress) → ((calls : ℕ) → progress ≡ HasFlushed calls → ⊥) → ending (flushed (Ok progress)) ≡ Some (flushed (Ok progress))
is_last (HasFlushed calls) not = absurd (not calls refl)
is_last (HasAcked count) not = refl
is_last NoneToFlush not = refl

pub returns-in_err-ended : goal.returns-in_err-ended
returns-in_err-ended g c =
    let a = g.D.Area in
    let p = err_from_is_err_and c.from_residual.result c.from_residual.ensures.1 in
    let refusal = c.in_err-ended.field-0.0 in
    let is : c.from_residual.result ≡ Err refusal = p.1 ∙ ap (λ (f : Refusal). Err f) p.2 in
    let new = c.flush_step.new.self in
    subst (λ r. Repeats a 3 (FlushStep c.args.node) c.args.self.now (flushed r) new) (sym is)
    (c.loop.invariant (Refused refusal) new
    (ends_here a 4 c.loop.counter (FlushStep c.args.node) c.loop.self new (Refused refusal) (omega (arith, c.loop-test.true)) refl
    (subst (λ r. StepsTo a c.loop.self (FlushStep c.args.node) (flushed r) new) c.in_err-ended.was c.flush_step.ensures)))

pub returns-in_default : goal.returns-in_default
returns-in_default g c =
    let a = g.D.Area in
    let new = c.flush_step.new.self in
    let is : c.flush_step.result ≡ Ok c.in_ok-ended.ended = c.in_ok-ended.was in
    c.loop.invariant (flushed (Ok c.in_ok-ended.ended)) new
    (ends_here a 4 c.loop.counter (FlushStep c.args.node) c.loop.self new (flushed (Ok c.in_ok-ended.ended)) (omega (arith, c.loop-test.true))
    (is_last c.in_ok-ended.ended c.in_default.not-Stepped)
    (subst (λ r. StepsTo a c.loop.self (FlushStep c.args.node) (flushed r) new) is c.flush_step.ensures))

pub loop-preserved : goal.loop-preserved
loop-preserved g c = λ reply last rest.
    let a = g.D.Area in
    let mid = c.flush_step.new.self in
    let is : c.flush_step.result ≡ Ok (HasFlushed c.in-Stepped.field-0) = cc in
    c.loop.invariant reply last
    (goes_on a 4 c.loop.counter (FlushStep c.args.node) c.loop.self mid (flushed (Ok (HasFlushed c.in-Stepped.field-0))) (omega (arith, c.loop-test.true)) refl
    (subst (λ r. StepsTo a c.loop.self (FlushStep c.args.node) (flushed r) mid) is c.flush_step.ensures) reply last rest)

pub returns : goal.returns
returns g c =
    c.loop.invariant (flushed c.flush_step-2.result) c.flush_step-2.new.self
    (last_call g.D.Area 4 c.loop.counter (FlushStep c.args.node) c.loop.self c.flush_step-2.new.self (flushed c.flush_step-2.result) (omega (arith, c.loop-test.false)) c.flush_step-2.ensures)

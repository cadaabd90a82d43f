use Rattle.std.proofs.Common.{◌≡◌, ◌<◌, ℕ, length, Some, true, ap, sym, ◌∙◌, arith, below_more}
use Rattle.std.specs.Prelude.{slice_get}
use Rattle.std.proofs.lemmas.Option.{none-some, slice_get_within}
use Rattle.lc_record.specs.declared.record.Lock.{Lock}
use Rattle.lc_log_side.specs.Trims.{is_due_lock}
use Rattle.std.proofs.lemmas.Option.{same_Some as same_some}
use Rattle.lc_log_side.proofs.FirstRecord.{all_pass, list_all_fails, some_at}
use Rattle.lc_log_side.proofs.dropping.is_due.Goals as goal

pub loop-index-init : goal.loop-index-init
loop-index-init c = λ r is k below. absurd (omega (arith, below))

pub returns-in_default : goal.returns-in_default
returns-in_default c = λ r is.
    let within : c.loop-index.index < length r.locks = omega (arith, c.loop-index-test.true, c.kept_lock_count-index-end.ensures.count r is) in
    let there = some_at r.locks c.loop-index.index within in
    absurd (none-some there.0 (c.in_default.ensures r is ∙ there.1))

pub returns-then-not-is_due_lock : goal.returns-then-not-is_due_lock
returns-then-not-is_due_lock c = λ r is.
    let lock = c.in-Some.lock in
    let at = sym (c.in-Some.ensures r is) in
    let fails = sym c.is_due_lock.ensures ∙ c.if-not-is_due_lock.true in
    sym (list_all_fails (is_due_lock c.args.applied.now c.args.dropped.now) r.locks c.loop-index.index lock at fails)

pub loop-index-preserved : goal.loop-index-preserved
loop-index-preserved c = λ r is.
    let lock = c.in-Some.lock in
    let at = sym (c.in-Some.ensures r is) in
    let passes = sym c.is_due_lock.ensures ∙ c.if-not-is_due_lock.false in
    below_more (λ (k : ℕ). (lock : Lock) → slice_get r.locks k ≡ Some lock → is_due_lock c.args.applied.now c.args.dropped.now lock ≡ true) c.loop-index.index
    (c.loop-index.invariant r is)
    (λ other same. ap (is_due_lock c.args.applied.now c.args.dropped.now) (same_some other lock (sym same ∙ at)) ∙ passes)

pub returns : goal.returns
returns c = λ r is.
    sym (all_pass (is_due_lock c.args.applied.now c.args.dropped.now) r.locks (λ k lock at.
    let within = slice_get_within r.locks k lock at in
    let passed : k < c.loop-index.index = omega (arith, within, c.kept_lock_count-index-end.ensures.count r is, c.loop-index-test.false) in
    c.loop-index.invariant r is k passed lock at))

use Rattle.std.proofs.Common.{◌≡◌, ◌<◌, ℕ, length, Some, slice_get, true, ap, sym, ◌∙◌, arith, below_more}
use Rattle.std.proofs.lemmas.Option.{none-some, slice_get_within, same_Some as same_some}
use Rattle.lc_record.specs.declared.record.Lock.{Lock}
use Rattle.lc_record.proofs.ListLemmas.{slice_get_some as some_at}
use Rattle.lc_settled.specs.Numbers.{is_applied}
use Rattle.lc_events.proofs.Trimmed.{all_pass, one_fails}
use Rattle.lc_events.proofs.trimming.are_locks_applied.Goals as goal

pub loop-index-init : goal.loop-index-init
loop-index-init g c = λ m s x r h is known k below. absurd (omega (arith, below))

pub returns-in_default : goal.returns-in_default
returns-in_default g c = λ m s x r h is known.
    let within : c.loop-index.index < length r.locks = omega (arith, c.loop-index-test.true, c.kept_lock_count-index-end.ensures.count r is) in
    let there = some_at r.locks c.loop-index.index within in
    absurd (none-some there.0 (c.in_default.ensures r is ∙ there.1))

pub returns-then-not-is_applied : goal.returns-then-not-is_applied
returns-then-not-is_applied g c = λ m s x r h is known.
    let lock = c.in-Some.lock in
    let at = sym (c.in-Some.ensures r is) in
    let fails = sym (c.is_applied.ensures m s x h (known c.loop-index.index lock at)) ∙ c.if-not-is_applied.true in
    sym (one_fails (is_applied m.geometry x) r.locks c.loop-index.index lock at fails)

pub loop-index-preserved : goal.loop-index-preserved
loop-index-preserved g c = λ m s x r h is known.
    let lock = c.in-Some.lock in
    let at = sym (c.in-Some.ensures r is) in
    let passes = sym (c.is_applied.ensures m s x h (known c.loop-index.index lock at)) ∙ c.if-not-is_applied.false in
    below_more (λ (k : ℕ). (lock : Lock) → slice_get r.locks k ≡ Some lock → is_applied m.geometry x lock ≡ true) c.loop-index.index
    (c.loop-index.invariant m s x r h is known)
    (λ other same. ap (is_applied m.geometry x) (same_some other lock (sym same ∙ at)) ∙ passes)

pub returns : goal.returns
returns g c = λ m s x r h is known.
    sym (all_pass (is_applied m.geometry x) r.locks (λ k lock at.
    let within = slice_get_within r.locks k lock at in
    let passed : k < c.loop-index.index = omega (arith, within, c.kept_lock_count-index-end.ensures.count r is, c.loop-index-test.false) in
    c.loop-index.invariant m s x r h is known k passed lock at))

use Rattle.std.proofs.Common.{◌≡◌, ◌∙◌, ◌+◌, ◌*◌, ◌<◌, ℕ, List, Some, length, inl, inr, sym, ap, arith}
use Rattle.std.proofs.lemmas.Option.{none-some, same_Some}
use Rattle.lc_record.specs.Reading.{lock_at}
use Rattle.lc_record.specs.declared.record.Lock.{Lock}
use Rattle.lc_record.proofs.ViewLemmas.{lock_there, locks_within}
use Rattle.lc_record.proofs.kept_locks.kept_lock.Goals as goal

pub returns-in_err-rest : goal.returns-in_err-rest
returns-in_err-rest c = λ r is.
    let words = c.args.words.now in
    let past : length words < 2 + 2 * c.args.index = elim c.in_err-rest.ensures.lookup.0 [ inl before ↦ omega (arith, before) | inr behind ↦ omega (arith, behind) ] in
    absurd (omega (arith, past, locks_within r words is, c.kept_lock_count.ensures.count r is, c.if-index-kept_lock_count.false))

pub returns-in_err-lock : goal.returns-in_err-lock
returns-in_err-lock c = λ r is.
    let words = c.args.words.now in
    let its = lock_there r words c.args.index is (omega (arith, c.kept_lock_count.ensures.count r is, c.if-index-kept_lock_count.false)) in
    absurd (none-some its.0 (sym c.in_err-lock.ensures ∙ ap lock_at c.in_ok-rest.ensures.lookup.0.2 ∙ its.1))

pub returns : goal.returns
returns c = λ r is.
    let words = c.args.words.now in
    let its = lock_there r words c.args.index is (omega (arith, c.kept_lock_count.ensures.count r is, c.if-index-kept_lock_count.false)) in
    let x : Lock × List ℕ = (c.in_ok-lock.lock, c.in_ok-lock.field-0-1.now) in
    let read : x ≡ its.0 = same_Some x its.0 (sym c.in_ok-lock.ensures ∙ ap lock_at c.in_ok-rest.ensures.lookup.0.2 ∙ its.1) in
    ap (λ (y : Lock × List ℕ). Some y.0) read ∙ sym its.2

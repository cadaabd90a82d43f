use Rattle.std.proofs.Common.{◌≡◌, ℕ, ◌+◌, List, length, drop, take, ◌-◌, ◌∙◌, ap, sym, subst, arith}
use Rattle.std.proofs.lemmas.List.{take_rest}
use Rattle.std.proofs.lemmas.Result.{err_from_is_err_and}
use Rattle.lc_record.specs.Codec.{BeginsWith}
use Rattle.lc_record.specs.declared.record.Record.{Record}
use Rattle.lc_log.proofs.WalkLemmas.{Found, found_more, words_of-some}
use Rattle.lc_log.proofs.walking.walk.Goals as goal

pub loop-end_place-preserved : goal.loop-end_place-preserved
loop-end_place-preserved c =
    let words : List ℕ = c.in_ok-words.words.items in
    let end : ℕ = c.loop-end_place.end_place in
    let found = rw c.in-Some.is at c.in_ok-record.ensures.found in
    let rest : take (length c.deref.result.now - end) (drop end c.deref.result.now) ≡ drop end words = take_rest c.deref.result.now end ∙ ap (drop end) c.deref.ensures.value in
    let begins : BeginsWith (drop end words) c.in-Some.record c.in-Some.len = subst (λ (l : List ℕ). BeginsWith l c.in-Some.record c.in-Some.len) rest found in
    subst (λ (l : List (ℕ × Record)). Found words l (end + c.in-Some.len)) (sym c.in_ok-push.ensures.items)
    (found_more words c.loop-end_place.records.items end c.in-Some.record c.in-Some.len c.loop-end_place.invariant begins)

pub returns-in_err-record-clause-memory : goal.returns-in_err-record-clause-memory
returns-in_err-record-clause-memory c =
    let p = err_from_is_err_and c.from_residual-in_err-record.result c.from_residual-in_err-record.ensures.1 in
    rw p.1 (words_of-some c.args.bytes.now (omega (arith, c.loop-end_place-test.true, c.len.ensures, ap length c.in_ok-words.ensures.words)))

pub returns-in_err-push-clause-memory : goal.returns-in_err-push-clause-memory
returns-in_err-push-clause-memory c =
    let p = err_from_is_err_and c.from_residual-in_err-push.result c.from_residual-in_err-push.ensures.1 in
    rw p.1 (words_of-some c.args.bytes.now (omega (arith, c.loop-end_place-test.true, c.len.ensures, ap length c.in_ok-words.ensures.words)))

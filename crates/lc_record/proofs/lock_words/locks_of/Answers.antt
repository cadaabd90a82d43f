use Rattle.std.proofs.Common.{◌≡◌, ◌-◌, ◌∙◌, ℕ, List, [], ◌∷◌, ◌++◌, Some, ap, sym, arith}
use Rattle.lc_record.specs.LockWords.{locks_in}
use Rattle.lc_record.specs.Reading.{lock_at, locks_at}
use Rattle.lc_record.specs.declared.record.Lock.{Lock}
use Rattle.lc_record.proofs.LoopLemmas.{many_next, many_fails, many_done}
use Rattle.lc_record.proofs.ViewLemmas.{front_none}
use Rattle.lc_record.proofs.LockWordsLemmas.{LocksStand, locks_stand}
use Rattle.lc_record.proofs.lock_words.locks_of.Goals as goal

pub loop-init : goal.loop-init
loop-init c =
    let all : c.args.count - 0 ≡ c.args.count = omega arith in
    ([], rw all (front_none (locks_at c.args.count c.args.words.now)))

pub returns-in_err-behind : goal.returns-in_err-behind
returns-in_err-behind c =
    let l = c.loop in
    rw c.from_residual.ensures (many_fails lock_at l.invariant.0 c.args.count l.counter l.rest.now (locks_at c.args.count c.args.words.now) l.invariant.1 c.loop-test.true c.in_err-behind.ensures)

pub loop-preserved : goal.loop-preserved
loop-preserved c =
    let l = c.loop in
    let lock : Lock = c.in_ok-behind.field-0-0 in
    (l.invariant.0 ++ lock ∷ [], many_next lock_at l.invariant.0 c.args.count l.counter l.rest.now (locks_at c.args.count c.args.words.now) l.invariant.1 lock c.in_ok-behind.behind.now c.loop-test.true c.in_ok-behind.ensures)

pub split_at-requires : goal.split_at-requires
split_at-requires c =
    let l = c.loop in
    let all = many_done lock_at l.invariant.0 c.args.count l.counter l.rest.now (locks_at c.args.count c.args.words.now) l.invariant.1 c.loop-test.false in
    let its : LocksStand c.args.count c.args.words.now l.invariant.0 l.rest.now = locks_stand c.args.count c.args.words.now (l.invariant.0, l.rest.now) all in
    omega (arith, its.within)

pub returns : goal.returns
returns c =
    let l = c.loop in
    let all = many_done lock_at l.invariant.0 c.args.count l.counter l.rest.now (locks_at c.args.count c.args.words.now) l.invariant.1 c.loop-test.false in
    let its : LocksStand c.args.count c.args.words.now l.invariant.0 l.rest.now = locks_stand c.args.count c.args.words.now (l.invariant.0, l.rest.now) all in
    all
    ∙ ap (λ (locks : List Lock). Some (locks, l.rest.now)) (sym its.front ∙ ap locks_in (sym c.split_at.ensures.front))
    ∙ ap (λ (rest : List ℕ). Some (locks_in c.split_at.result.0.now, rest)) (sym its.behind ∙ sym c.split_at.ensures.back)

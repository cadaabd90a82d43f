use Rattle.std.proofs.Common.{◌≡◌, ℕ, ◌+◌, suc, map, drop, ap, arith}
use Rattle.lc_model.specs.History.{leading}
use Rattle.lc_journal.specs.declared.record_end.RecordEnd.{RecordEnd}
use Rattle.lc_journal.proofs.Spans.{closed_next, open_next}
use Rattle.lc_journal.proofs.records.leading_from.Goals as goal

pub loop-count-preserved : goal.loop-count-preserved
loop-count-preserved c =
    let n : ℕ = c.loop-count.count in
    let one : n + 1 ≡ suc n = omega arith in
    let next = closed_next c.args.places.now n _ c.loop-count-test.true c.if-places-count.true in
    let there = ap (λ (k : ℕ). leading (drop k (map (λ (p : RecordEnd). p.closed) c.args.places.now))) one in
    (omega (arith, c.loop-count-test.true), omega (arith, next, there, c.loop-count.invariant.1))

pub returns-else-places-count : goal.returns-else-places-count
returns-else-places-count c =
    let none = open_next c.args.places.now c.loop-count.count _ c.loop-count-test.true c.if-places-count.false in
    omega (arith, none, c.loop-count.invariant.1)

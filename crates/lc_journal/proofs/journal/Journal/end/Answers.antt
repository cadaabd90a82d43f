use Rattle.std.proofs.Common.{◌≤◌, arith, length, ap}
use Rattle.lc_journal.specs.Records.{count_of, front_of, span_of}
use Rattle.lc_journal.proofs.Spans.{leading_le}
use Rattle.lc_journal.proofs.journal.Journal.end.Goals as goal

pub span-requires-clause-order : goal.span-requires-clause-order
span-requires-clause-order g c =
    let w = c.args.self.now in
    let front : front_of w.records ≤ count_of w.records = omega (arith, leading_le w.records.records) in
    omega (arith, c.count.ensures, w.dropped_acked, w.acked_taken, w.taken_closed, front)

pub overflow_cast-result : goal.overflow_cast-result
overflow_cast-result g c =
    let w = c.args.self.now in
    omega (arith, w.room, w.short, ap length c.span.ensures, ap (λ n. length (span_of w.records w.dropped n)) c.count.ensures)

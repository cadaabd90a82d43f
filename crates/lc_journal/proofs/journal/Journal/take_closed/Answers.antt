use Rattle.std.proofs.Common.{◌≤◌, arith, length, ap}
use Rattle.lc_journal.specs.Records.{count_of, front_of}
use Rattle.lc_journal.proofs.Spans.{leading_le, length-span}
use Rattle.lc_journal.proofs.journal.Journal.take_closed.Goals as goal

pub span-requires-clause-reserved : goal.span-requires-clause-reserved
span-requires-clause-reserved g c = omega (arith, c.front-front.ensures, leading_le c.args.self.now.records.records)

pub fill-requires : goal.fill-requires
fill-requires g c =
    let w = c.args.self.now in
    let k = w.records in
    let front : front_of k ≤ count_of k = omega (arith, leading_le k.records) in
    let all = length-span k w.dropped w.acked (count_of k) w.kept w.dropped_acked (omega (arith, w.acked_taken, w.taken_closed, front)) in
    let rest = length-span k w.acked c.front-front.result (count_of k) (omega (arith, w.kept, w.dropped_acked)) (omega (arith, w.acked_taken, w.taken_closed, c.front-front.ensures)) (omega (arith, front, c.front-front.ensures)) in
    omega (arith, ap length c.span.ensures, all, rest, w.room)

use Rattle.std.proofs.Common.{◌-◌, ◌≤◌, arith}
use Rattle.lc_journal.specs.Records.{count_of, front_of}
use Rattle.lc_journal.proofs.Spans.{leading_le}
use Rattle.lc_journal.proofs.FoundByNumber.{record_found, record_lost}
use Rattle.lc_journal.proofs.journal.Journal.published.Goals as goal

pub words-requires-clause-reserved : goal.words-requires-clause-reserved
words-requires-clause-reserved g c =
    let w = c.args.self.now in
    let front : front_of w.records ≤ count_of w.records = omega (arith, leading_le w.records.records) in
    omega (arith, c.if-number-eq0.false, c.if-number-self.false, w.acked_taken, w.taken_closed, front)

pub returns-in-Some : goal.returns-in-Some
returns-in-Some g c = λ m node s x h.
    let w = c.args.self.now in
    let front : front_of w.records ≤ count_of w.records = omega (arith, leading_le w.records.records) in
    let some : 1 ≤ c.args.number = omega (arith, c.if-number-self-2.false) in (
      some,
      omega (arith, c.if-number-self.false, h.acked_is),
      omega (arith, c.if-number-self-2.false, h.trimmed_is),
      record_found g.D.Area m node s x w.log w.records w.dropped w.trimmed w.taken w.acked h (c.args.number - 1) c.words.result.now c.in-Some.view
          (omega (arith, w.kept_for_peers, c.if-number-self-2.false)) (omega (arith, some, c.if-number-self.false, w.acked_taken, w.taken_closed, front))
          c.words.ensures c.in-Some.ensures.found,
    )

pub returns-in-None : goal.returns-in-None
returns-in-None g c = λ m node s x h.
    let w = c.args.self.now in
    let front : front_of w.records ≤ count_of w.records = omega (arith, leading_le w.records.records) in
    let some : 1 ≤ c.args.number = omega (arith, c.if-number-self-2.false) in
    absurd (record_lost g.D.Area m node s x w.log w.records w.dropped w.trimmed w.taken w.acked h (c.args.number - 1) c.words.result.now
    (omega (arith, w.kept_for_peers, c.if-number-self-2.false)) (omega (arith, some, c.if-number-self.false, w.acked_taken, w.taken_closed, front))
    c.words.ensures c.in-None.ensures.none)

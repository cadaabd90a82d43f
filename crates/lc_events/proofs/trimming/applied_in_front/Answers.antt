use Rattle.std.proofs.Common.{◌≡◌, ◌-◌, ◌≤◌, ℕ, subst, arith}
use Rattle.lc_journal.specs.Records.{count_of, front_of}
use Rattle.lc_events.specs.Trimming.{TellsLocks}
use Rattle.lc_journal.proofs.Spans.{leading_le}
use Rattle.lc_events.proofs.Trimmed.{AreDone, all_done, stops_at, one_more}
use Rattle.lc_events.proofs.trimming.applied_in_front.Goals as goal

pub loop-number-init : goal.loop-number-init
loop-number-init g c = λ m n s x sound journal slots k r below at. absurd (omega (arith, below))

pub words-requires-clause-reserved : goal.words-requires-clause-reserved
words-requires-clause-reserved g c =
    let w = c.args.journal.now in
    let front : front_of w.records ≤ count_of w.records = omega (arith, leading_le w.records.records) in
    omega (arith, c.loop-number-test.true, w.acked_taken, w.taken_closed, front)

pub returns-then-not-are_locks_applied-clause-counts : goal.returns-then-not-are_locks_applied-clause-counts
returns-then-not-are_locks_applied-clause-counts g c =
    stops_at g.D.Area c.args.nodes.now c.args.journal.now c.loop-number.number c.loop-number.auto.number c.loop-number-test.true c.words.result.now c.words.ensures
    c.loop-number.invariant
    (subst (TellsLocks g.D.Area c.args.nodes.now c.words.result.now) c.if-not-are_locks_applied.true c.are_locks_applied.ensures)

pub loop-number-preserved : goal.loop-number-preserved
loop-number-preserved g c =
    one_more g.D.Area c.args.nodes.now c.args.journal.now c.loop-number.number c.loop-number.auto.number c.loop-number-test.true c.words.result.now c.words.ensures
    c.loop-number.invariant
    (subst (TellsLocks g.D.Area c.args.nodes.now c.words.result.now) c.if-not-are_locks_applied.false c.are_locks_applied.ensures)

pub returns-clause-counts : goal.returns-clause-counts
returns-clause-counts g c =
    let w = c.args.journal.now in
    let all : c.loop-number.number ≡ w.acked = omega (arith, c.loop-number-test.false, c.loop-number.auto.number-end w.trimmed_acked) in
    all_done g.D.Area c.args.nodes.now w (subst (λ (n : ℕ). AreDone g.D.Area c.args.nodes.now w (n - w.trimmed)) all c.loop-number.invariant)

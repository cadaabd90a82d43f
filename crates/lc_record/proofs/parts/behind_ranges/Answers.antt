use Rattle.std.proofs.Common.{◌≡◌, ◌≢◌, ◌+◌, ◌-◌, Some, None, length, sym, subst, ap, ◌∙◌}
use Rattle.std.proofs.lemmas.Bool.{eqb-true, eqb-false}
use Rattle.lc_record.specs.GrammarVersion.{number, later, end_of, version_to}
use Rattle.lc_record.specs.Record.{span_of}
use Rattle.lc_record.specs.LockWords.{locks_in}
use Rattle.lc_record.specs.Reading.{place, start, step, range_of, ranges_at, walked}
use Rattle.lc_record.specs.declared.grammar_version.GrammarVersion.{GrammarVersion}
use Rattle.lc_record.specs.declared.span.Span.{Span}
use Rattle.lc_record.proofs.LoopLemmas.{walked_on, range_span, step_end, walk_next, walk_stops, walk_fails, walk_left, walk_other, walk_whole}
use Rattle.lc_record.proofs.parts.behind_ranges.Goals as goal

pub returns-in_err-range : goal.returns-in_err-range
returns-in_err-range c =
    let l = c.loop in
    rw c.from_residual.ensures (walk_fails l.needed c.args.head.version (place l.walk.segment l.walk.end (locks_in l.walk.locks.words.now)) c.args.head.ranges l.counter l.rest.now _ l.invariant c.loop-test.true c.in_err-range.ensures.read)

pub returns-in_err-walk : goal.returns-in_err-walk
returns-in_err-walk c =
    let l = c.loop in
    let r = c.in_ok-range.range in
    let before = place l.walk.segment l.walk.end (locks_in l.walk.locks.words.now) in
    let range = range_of r.span r.data.now in
    let same = range_span r.span r.data.now c.in_ok-range.ensures.whole in
    let stops : step before (span_of range) ≡ None = ap (λ (s : Span). step before s) same ∙ c.in_err-walk.ensures in
    rw c.from_residual-in_err-walk.ensures (walk_stops l.needed c.args.head.version before c.args.head.ranges l.counter l.rest.now _ l.invariant range c.in_ok-range.behind.now c.loop-test.true c.in_ok-range.ensures.read stops)

pub loop-preserved : goal.loop-preserved
loop-preserved c =
    let l = c.loop in
    let r = c.in_ok-range.range in
    let before = place l.walk.segment l.walk.end (locks_in l.walk.locks.words.now) in
    let w = c.in_ok-walk.walk in
    let after = place w.segment w.end (locks_in w.locks.words.now) in
    let range = range_of r.span r.data.now in
    let same = range_span r.span r.data.now c.in_ok-range.ensures.whole in
    let goes : step before (span_of range) ≡ Some after = ap (λ (s : Span). step before s) same ∙ c.in_ok-walk.ensures in
    let needs : c.later-needed.result ≡ later l.needed (version_to (end_of (span_of range))) =
    c.later-needed.ensures ∙ ap (later l.needed) (c.ending_at.ensures ∙ ap version_to (step_end before after (span_of range) goes)) in
    subst (λ (v : GrammarVersion). walked_on v c.args.head.version after (ranges_at c.args.head.version (c.args.head.ranges - (l.counter + 1)) c.in_ok-range.behind.now) ≡ walked c.args.head.version (start (locks_in c.args.locks.words.now)) (ranges_at c.args.head.version c.args.head.ranges c.args.words.now))
    (sym needs)
    (walk_next l.needed c.args.head.version before c.args.head.ranges l.counter l.rest.now _ l.invariant range c.in_ok-range.behind.now after c.loop-test.true c.in_ok-range.ensures.read goes)

pub returns-then-not-is_empty : goal.returns-then-not-is_empty
returns-then-not-is_empty c =
    let l = c.loop in
    let some : length (locks_in l.walk.locks.words.now) ≢ 0 = eqb-false (length (locks_in l.walk.locks.words.now)) 0 (sym c.is_empty.ensures ∙ c.if-not-is_empty.true) in
    walk_left l.needed c.args.head.version (place l.walk.segment l.walk.end (locks_in l.walk.locks.words.now)) c.args.head.ranges l.counter l.rest.now _ l.invariant c.loop-test.false some

pub returns-then-number : goal.returns-then-number
returns-then-number c =
    let l = c.loop in
    let other : number l.needed ≢ number c.args.head.version = λ e. c.if-number.true (c.number.ensures ∙ e ∙ sym c.number-2.ensures) in
    walk_other l.needed c.args.head.version (place l.walk.segment l.walk.end (locks_in l.walk.locks.words.now)) c.args.head.ranges l.counter l.rest.now _ l.invariant c.loop-test.false other

pub returns : goal.returns
returns c =
    let l = c.loop in
    let none : length (locks_in l.walk.locks.words.now) ≡ 0 = eqb-true (length (locks_in l.walk.locks.words.now)) 0 (sym c.is_empty.ensures ∙ c.if-not-is_empty.false) in
    let same : number l.needed ≡ number c.args.head.version = sym c.number.ensures ∙ c.if-number.false ∙ c.number-2.ensures in
    walk_whole l.needed c.args.head.version (place l.walk.segment l.walk.end (locks_in l.walk.locks.words.now)) c.args.head.ranges l.counter l.rest.now _ l.invariant c.loop-test.false none same

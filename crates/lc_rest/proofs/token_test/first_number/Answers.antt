use Rattle.std.proofs.Common.{rules, ◌≡◌, ◌+◌, ◌-◌, ◌<◌, ◌≤◌, ◌∙◌, ℕ, List, ap, refl, arith, take}
use Rattle.std.specs.Prelude.{IfNone, Option, None, Some, slice_index_or}
use Rattle.std.specs.Global.{Vec}
use Rattle.lc_record.specs.declared.record.Record.{Record}
use Rattle.lc_rest.specs.Merge.{logs_of}
use Rattle.lc_rest.specs.TokenTest.{count_log, count_on}
use Rattle.lc_rest.proofs.TokenTests.{count-more, count-most}
use Rattle.lc_rest.proofs.token_test.first_number.Goals as goal

if-none : (o : Option ℕ) (P : Type 0) → P → IfNone o P
if-none None P is = is
if-none (Some n) P is = search rules

pub returns-in_err-first-clause-none : goal.returns-in_err-first-clause-none
returns-in_err-first-clause-none c =
    let logs : List (Vec Record) = c.args.logs.now in
    let i = c.loop-log.log-index in
    let own : c.count_log.result ≡ count_log c.args.segment (slice_index_or logs i c.log-item.result).items =
    c.count_log.ensures ∙ ap (λ (rs : List Record). count_log c.args.segment rs) c.as_slice.ensures.value ∙ ap (λ (l : Vec Record). count_log c.args.segment l.items) c.log-item.is in
    let more = count-more c.args.segment logs (count_on c.args.segment (logs_of (take i logs))) i c.log-item.result c.loop-log-test.true refl in
    let most = count-most c.args.segment (i + 1) logs in
    let less : c.loop-log.first < c.count_log.result = search rules in
    let before : c.loop-log.first + count_on c.args.segment (logs_of (take i logs)) ≡ c.args.seq = c.loop-log.invariant in
    if-none c.from_residual.result (c.args.seq < count_on c.args.segment (logs_of logs)) (omega (arith, own, more, most, less, before))

pub loop-log-preserved : goal.loop-log-preserved
loop-log-preserved c =
    let logs : List (Vec Record) = c.args.logs.now in
    let i = c.loop-log.log-index in
    let own : c.count_log.result ≡ count_log c.args.segment (slice_index_or logs i c.log-item.result).items =
    c.count_log.ensures ∙ ap (λ (rs : List Record). count_log c.args.segment rs) c.as_slice.ensures.value ∙ ap (λ (l : Vec Record). count_log c.args.segment l.items) c.log-item.is in
    let more = count-more c.args.segment logs (count_on c.args.segment (logs_of (take i logs))) i c.log-item.result c.loop-log-test.true refl in
    let before : c.loop-log.first + count_on c.args.segment (logs_of (take i logs)) ≡ c.args.seq = c.loop-log.invariant in
    let few : c.count_log.result ≤ c.loop-log.first = c.in_ok-first.ensures.0 in
    let first : c.in_ok-first.first ≡ c.loop-log.first - c.count_log.result = c.in_ok-first.ensures.1 in
    omega (arith, own, more, before, few, first)

use Rattle.std.proofs.Common.{ℕ, List, Option, Some, ap}
use Rattle.lc_record.specs.Reading.{◌>>=◌, range_at, range_of}
use Rattle.lc_record.specs.declared.record.RangeData.{RangeData}
use Rattle.lc_record.proofs.LoopLemmas.{many_next, many_fails, many_done}
use Rattle.lc_record.proofs.decoding.read_ranges.Goals as goal

pub returns-in_default : goal.returns-in_default
returns-in_default c =
    let l = c.loop in
    ap (λ (o : Option (List RangeData × List ℕ)). o >>= λ x. Some x.0) (many_fails (range_at c.args.head.version) l.ranges.items c.args.head.ranges l.counter l.rest.now _ l.invariant c.loop-test.true c.in_default.ensures.read)

pub loop-preserved : goal.loop-preserved
loop-preserved c =
    let l = c.loop in
    let r = c.in-Some.range in
    rw (c.in_ok-push.ensures.items, c.in_ok-read_range.ensures)
    (many_next (range_at c.args.head.version) l.ranges.items c.args.head.ranges l.counter l.rest.now _ l.invariant (range_of r.span r.data.now) c.in-Some.behind.now c.loop-test.true c.in-Some.ensures.read)

pub returns : goal.returns
returns c =
    let l = c.loop in
    ap (λ (o : Option (List RangeData × List ℕ)). o >>= λ x. Some x.0) (many_done (range_at c.args.head.version) l.ranges.items c.args.head.ranges l.counter l.rest.now _ l.invariant c.loop-test.false)

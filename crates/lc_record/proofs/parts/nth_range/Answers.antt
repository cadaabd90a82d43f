use Rattle.std.proofs.Common.{◌≡◌, ◌-◌, ◌<◌, ◌∙◌, ℕ, [], ◌∷◌, ◌++◌, length, length-append, refl, sym, ap, arith}
use Rattle.std.specs.Prelude.{slice_get}
use Rattle.std.proofs.lemmas.Option.{none-some, slice_get_past}
use Rattle.lc_record.specs.Reading.{range_at, range_of, ranges_at}
use Rattle.lc_record.specs.declared.record.RangeData.{RangeData}
use Rattle.lc_record.proofs.LoopLemmas.{many_next, many_fails}
use Rattle.lc_record.proofs.ViewLemmas.{front_none, many_count, many_nth}
use Rattle.lc_record.proofs.parts.nth_range.Goals as goal

pub returns-then-index-head-clause-read : goal.returns-then-index-head-clause-read
returns-then-index-head-clause-read c ranges rest is =
    slice_get_past ranges c.args.index (omega (arith, many_count (range_at c.args.head.version) c.args.head.ranges c.args.words.now (ranges, rest) is, c.if-index-head.true))

pub loop-init : goal.loop-init
loop-init c =
    let all : c.args.head.ranges - 0 ≡ c.args.head.ranges = omega arith in
    ([], refl, rw all (front_none (ranges_at c.args.head.version c.args.head.ranges c.args.words.now)))

pub returns-in_err-behind-clause-read : goal.returns-in_err-behind-clause-read
returns-in_err-behind-clause-read c ranges rest is =
    let l = c.loop in
    let below : l.counter < c.args.head.ranges = omega (arith, c.loop-test.true, c.if-index-head.false) in
    let none = many_fails (range_at c.args.head.version) l.invariant.0 c.args.head.ranges l.counter l.rest.now _ l.invariant.2 below c.in_err-behind.ensures.read in
    absurd (none-some (ranges, rest) (sym none ∙ is))

pub loop-preserved : goal.loop-preserved
loop-preserved c =
    let l = c.loop in
    let below : l.counter < c.args.head.ranges = omega (arith, c.loop-test.true, c.if-index-head.false) in
    let x = c.in_ok-behind.field-0-0 in
    let range : RangeData = range_of x.span x.data.now in (
      l.invariant.0 ++ range ∷ [],
      omega (arith, length-append l.invariant.0 (range ∷ []), l.invariant.1),
      many_next (range_at c.args.head.version) l.invariant.0 c.args.head.ranges l.counter l.rest.now _ l.invariant.2 range c.in_ok-behind.behind.now below c.in_ok-behind.ensures.read,
    )

pub returns-in_err-range-clause-read : goal.returns-in_err-range-clause-read
returns-in_err-range-clause-read c ranges rest is =
    let l = c.loop in
    let below : l.counter < c.args.head.ranges = omega (arith, c.loop-test.false, l.auto.counter-end, c.if-index-head.false) in
    let none = many_fails (range_at c.args.head.version) l.invariant.0 c.args.head.ranges l.counter l.rest.now _ l.invariant.2 below c.in_err-range.ensures.read in
    absurd (none-some (ranges, rest) (sym none ∙ is))

pub returns-clause-read : goal.returns-clause-read
returns-clause-read c ranges rest is =
    let l = c.loop in
    let below : l.counter < c.args.head.ranges = omega (arith, c.loop-test.false, l.auto.counter-end, c.if-index-head.false) in
    let x = c.in_ok-range.range in
    let there : length l.invariant.0 ≡ c.args.index = omega (arith, l.invariant.1, c.loop-test.false, l.auto.counter-end) in
    ap (λ (i : ℕ). slice_get ranges i) (sym there)
    ∙ many_nth (range_at c.args.head.version) l.invariant.0 c.args.head.ranges l.counter l.rest.now _ l.invariant.2 (range_of x.span x.data.now) c.in_ok-range.field-0-1.now below c.in_ok-range.ensures.read ranges rest is

use Rattle.std.proofs.Common.{◌≡◌, ◌==◌, ◌++◌, ◌∙◌, ℕ, List, [], ◌∷◌, filter, sym, ap}
use Rattle.std.proofs.lemmas.List.Elements.{filter-append}
use Rattle.std.proofs.lemmas.Option.{none-some, same_Some}
use Rattle.lc_record.specs.Reading.{range_at, range_of}
use Rattle.lc_record.specs.declared.record.RangeData.{RangeData}
use Rattle.lc_record.proofs.LoopLemmas.{many_next, many_fails, many_done}
use Rattle.lc_record.proofs.decoding.read_ranges_of.Goals as goal

pub returns-in_default : goal.returns-in_default
returns-in_default c ranges rest is =
    let l = c.loop in
    let none = many_fails (range_at c.args.head.version) l.invariant.0 c.args.head.ranges l.counter l.rest.now _ l.invariant.1 c.loop-test.true c.in_default.ensures.read in
    absurd (none-some (ranges, rest) (sym none ∙ is))

pub loop-preserved : goal.loop-preserved
loop-preserved c =
    let l = c.loop in
    let x = c.in-Some.range in
    let range : RangeData = range_of x.span x.data.now in (
      l.invariant.0 ++ range ∷ [],
      many_next (range_at c.args.head.version) l.invariant.0 c.args.head.ranges l.counter l.rest.now _ l.invariant.1 range c.in-Some.behind.now c.loop-test.true c.in-Some.ensures.read,
      c.in_ok-add_where_of.ensures
          ∙ ap (λ (l : List RangeData). l ++ filter (λ its. its.segment == c.args.segment) (range ∷ [])) l.invariant.2
          ∙ sym (filter-append (λ (its : RangeData). its.segment == c.args.segment) l.invariant.0 (range ∷ [])),
    )

pub returns : goal.returns
returns c ranges rest is =
    let l = c.loop in
    let all = many_done (range_at c.args.head.version) l.invariant.0 c.args.head.ranges l.counter l.rest.now _ l.invariant.1 c.loop-test.false in
    let same : ranges ≡ l.invariant.0 = ap (λ (x : List RangeData × List ℕ). x.0) (same_Some (ranges, rest) (l.invariant.0, l.rest.now) (sym is ∙ all)) in
    l.invariant.2 ∙ ap (filter (λ (its : RangeData). its.segment == c.args.segment)) (sym same)

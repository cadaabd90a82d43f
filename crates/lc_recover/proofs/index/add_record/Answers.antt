use Rattle.std.proofs.Common.{◌≤◌, List, map, sym, arith, subst, ap}
use Rattle.lc_record.specs.declared.span.Span.{Span}
use Rattle.lc_record.specs.GrammarVersion.{end_of}
use Rattle.lc_record.proofs.ListLemmas.{OnErr_from as on_err}
use Rattle.lc_model.specs.Merge.{Page}
use Rattle.lc_recover.specs.Pages.{kept_pages}
use Rattle.lc_recover.specs.Changes.{HasOf, seat, PlacedRecord}
use Rattle.lc_recover.proofs.SpanWalks.{range-next, placed-next, reached-next, reached-all}
use Rattle.lc_recover.proofs.Pushes.{SpanAdded, span-added, range-some, range-ends, span-newer, covers-more, covers-nothing, covers-all}
use Rattle.lc_recover.proofs.index.add_record.Goals as goal

pub add_range-requires : goal.add_range-requires
add_range-requires c =
    let reached = c.loop-placed.invariant.covers in
    let at = range-next _ c.args.view.now _ _ c.in-Some.placed c.in-Some.ensures.steps reached in
    subst (λ (s : Span). end_of s ≤ 262144) (sym at.2) (range-ends c.args.view.now.ranges reached.passed at.0 c.requires.canonical.each_range at.1)

pub loop-placed-preserved-in_default : goal.loop-placed-preserved-in_default
loop-placed-preserved-in_default c =
    let pages : List (List Page) = map kept_pages c.args.segments.now in
    let s : PlacedRecord = seat c.args.log c.args.place c.args.view.now in
    let changes = c.loop-placed.changes.items in
    let reached = c.loop-placed.invariant.covers in
    let there = placed-next _ c.args.view.now _ _ c.in-Some.placed c.in-Some.ensures.steps reached in
    record {
      adds = c.loop-placed.invariant.adds;
      covers = reached-next _ _ c.args.view.now _ _ c.in-Some.placed c.in-Some.ensures.steps reached
          (covers-more pages s reached.passed c.in-Some.placed changes changes there (λ x has. has) reached.holds (covers-nothing pages s c.in-Some.placed changes c.in_default.ensures.none));
    }

pub loop-placed-preserved : goal.loop-placed-preserved
loop-placed-preserved c =
    let pages : List (List Page) = map kept_pages c.args.segments.now in
    let s : PlacedRecord = seat c.args.log c.args.place c.args.view.now in
    let reached = c.loop-placed.invariant.covers in
    let at = range-next _ c.args.view.now _ _ c.in-Some.placed c.in-Some.ensures.steps reached in
    let there = placed-next _ c.args.view.now _ _ c.in-Some.placed c.in-Some.ensures.steps reached in
    let some : 1 ≤ c.in-Some.placed.span.len = omega (arith, range-some c.args.view.now.ranges reached.passed at.0 c.requires.canonical.each_range at.1, ap (λ (x : Span). x.len) at.2) in
    let added : SpanAdded pages s reached.passed c.args.changes.now.items c.add_range.new.changes.items =
    span-added pages s reached.passed c.in-Some.placed c.in-Some-pages_of.pages.now c.number.result c.args.changes.now.items c.loop-placed.changes.items c.add_range.new.changes.items
    there some c.in-Some-pages_of.ensures.some c.number.ensures c.loop-placed.invariant.adds reached.holds c.in_ok-add_range.ensures.adds c.in_ok-add_range.ensures.covers in
    record {
      adds = added.adds;
      covers = reached-next _ _ c.args.view.now _ _ c.in-Some.placed c.in-Some.ensures.steps reached added.covers;
    }

pub returns-clause-covers : goal.returns-clause-covers
returns-clause-covers c =
    let reached = c.loop-placed.invariant.covers in
    covers-all (map kept_pages c.args.segments.now) (seat c.args.log c.args.place c.args.view.now) reached.passed c.loop-placed.changes.items (reached-all _ c.args.view.now _ c.in-None.ensures.steps.0 reached) reached.holds

pub returns-in_err-add_range-clause-memory : goal.returns-in_err-add_range-clause-memory
returns-in_err-add_range-clause-memory c =
    let pages : List (List Page) = map kept_pages c.args.segments.now in
    let s : PlacedRecord = seat c.args.log c.args.place c.args.view.now in
    let reached = c.loop-placed.invariant.covers in
    let at = range-next _ c.args.view.now _ _ c.in-Some.placed c.in-Some.ensures.steps reached in
    let there = placed-next _ c.args.view.now _ _ c.in-Some.placed c.in-Some.ensures.steps reached in
    let some : 1 ≤ c.in-Some.placed.span.len = omega (arith, range-some c.args.view.now.ranges reached.passed at.0 c.requires.canonical.each_range at.1, ap (λ (x : Span). x.len) at.2) in
    on_err c.from_residual.result (HasOf (map kept_pages c.args.segments.now) (seat c.args.log c.args.place c.args.view.now))
    (span-newer pages s reached.passed c.in-Some.placed c.in-Some-pages_of.pages.now c.number.result there some c.in-Some-pages_of.ensures.some c.number.ensures c.in_err-add_range.ensures.memory)

use Rattle.std.proofs.Common.{◌≤◌, ◌<◌, ◌*◌, arith, map, length, sym, subst}
use Rattle.lc_record.specs.Content.{segment_of}
use Rattle.lc_record.specs.GrammarVersion.{end_of}
use Rattle.lc_record.specs.Record.{span_of}
use Rattle.lc_record.specs.declared.record.RangeData.{RangeData}
use Rattle.lc_record.specs.declared.span.Span.{Span}
use Rattle.lc_record.proofs.ListLemmas.{All-take_more as all-more, Contains-slice_get as contains-at}
use Rattle.lc_recover.specs.Pages.{kept_pages}
use Rattle.lc_recover.proofs.Walks.{all-taken, few-pages}
use Rattle.lc_recover.proofs.Pushes.{range-ends}
use Rattle.lc_recover.proofs.SpanWalks.{range-next, reached-next, reached-all}
use Rattle.lc_recover.proofs.within.ranges_within.Goals as goal

pub overflow_add-from : goal.overflow_add-from
overflow_add-from c =
    let at = range-next _ c.args.view.now _ _ c.in-Some.placed c.in-Some.ensures.steps c.loop-placed.invariant in
    let ends : end_of c.in-Some.placed.span ≤ 262144 = subst (λ (s : Span). end_of s ≤ 262144) (sym at.2) (range-ends c.args.view.now.ranges c.loop-placed.invariant.passed at.0 c.requires.canonical.each_range at.1) in
    omega (arith, ends, c.from.ensures)

pub overflow_mul-page_count : goal.overflow_mul-page_count
overflow_mul-page_count c = omega (arith, c.page_count.ensures, few-pages 1024 c.args.segments.now c.requires.few_pages c.in-Some.placed.span.segment)

pub returns-then-from-span : goal.returns-then-from-span
returns-then-from-span c =
    let at = range-next _ c.args.view.now _ _ c.in-Some.placed c.in-Some.ensures.steps c.loop-placed.invariant in
    let span = c.in-Some.placed.span in
    let past : length (segment_of span.segment (map kept_pages c.args.segments.now)) * 256 < end_of span = omega (arith, c.if-from-span.true, c.from.ensures, c.page_count.ensures) in (
      at.0,
      contains-at c.args.view.now.ranges c.loop-placed.invariant.passed at.0 at.1,
      subst (λ (s : Span). length (segment_of s.segment (map kept_pages c.args.segments.now)) * 256 < end_of s) at.2 past,
    )

pub loop-placed-preserved : goal.loop-placed-preserved
loop-placed-preserved c =
    let at = range-next _ c.args.view.now _ _ c.in-Some.placed c.in-Some.ensures.steps c.loop-placed.invariant in
    let span = c.in-Some.placed.span in
    let lies : end_of span ≤ length (segment_of span.segment (map kept_pages c.args.segments.now)) * 256 = omega (arith, c.if-from-span.false, c.from.ensures, c.page_count.ensures) in
    reached-next _ _ c.args.view.now _ _ c.in-Some.placed c.in-Some.ensures.steps c.loop-placed.invariant
    (all-more (λ (range : RangeData). end_of (span_of range) ≤ length (segment_of range.segment (map kept_pages c.args.segments.now)) * 256) c.args.view.now.ranges c.loop-placed.invariant.passed at.0 at.1 c.loop-placed.invariant.holds
    (subst (λ (s : Span). end_of s ≤ length (segment_of s.segment (map kept_pages c.args.segments.now)) * 256) at.2 lies))

pub returns : goal.returns
returns c =
    all-taken (λ (range : RangeData). end_of (span_of range) ≤ length (segment_of range.segment (map kept_pages c.args.segments.now)) * 256) c.loop-placed.invariant.passed c.args.view.now.ranges
    (reached-all _ c.args.view.now _ c.in-None.ensures.steps.0 c.loop-placed.invariant) c.loop-placed.invariant.holds

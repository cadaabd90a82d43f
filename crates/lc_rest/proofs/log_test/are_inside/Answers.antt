use Rattle.std.proofs.Common.{◌≡◌, ◌≤◌, ◌<◌, ◌∙◌, ap, sym, refl, subst, length, All, List, true≢false}
use Rattle.std.specs.Prelude.{slice_index_or}
use Rattle.std.proofs.lemmas.List.{take_all}
use Rattle.std.proofs.lemmas.List.Elements.{All-more}
use Rattle.lc_record.specs.declared.record.RangeData.{RangeData}
use Rattle.lc_rest.specs.Adopted.{IsInside}
use Rattle.lc_rest.proofs.log_test.are_inside.Goals as goal

pub returns-then-not-is_inside : goal.returns-then-not-is_inside
returns-then-not-is_inside c =
    let i = c.loop-range.range-index in
    let item : c.range-item.result ≡ slice_index_or c.args.whole.now.ranges i c.range-item.result =
    c.range-item.is ∙ ap (λ (rs : List RangeData). slice_index_or rs i c.range-item.result) c.as_slice-range-items.ensures in
    let less : i < length c.args.whole.now.ranges = subst (λ (rs : List RangeData). i < length rs) c.as_slice-range-items.ensures c.loop-range-test.true in (
      λ e. absurd (true≢false (sym e)),
      λ all. absurd (true≢false (sym (c.is_inside.ensures.1 (subst (IsInside c.args.geometry.now) (sym item) (all i c.range-item.result less))) ∙ c.if-not-is_inside.true)),
    )

pub loop-range-preserved : goal.loop-range-preserved
loop-range-preserved c =
    All-more (IsInside c.args.geometry.now) c.args.whole.now.ranges c.loop-range.range-index c.range-item.result
    (subst (λ (rs : List RangeData). c.loop-range.range-index < length rs) c.as_slice-range-items.ensures c.loop-range-test.true)
    c.loop-range.invariant
    (subst (IsInside c.args.geometry.now)
    (c.range-item.is ∙ ap (λ (rs : List RangeData). slice_index_or rs c.loop-range.range-index c.range-item.result) c.as_slice-range-items.ensures)
    (c.is_inside.ensures.0 c.if-not-is_inside.false))

pub returns : goal.returns
returns c = (
  λ e. subst (λ (rs : List RangeData). All (IsInside c.args.geometry.now) rs)
      (take_all c.loop-range.range-index c.args.whole.now.ranges (subst (λ (rs : List RangeData). length rs ≤ c.loop-range.range-index) c.as_slice-range-items.ensures c.loop-range-test.false))
      c.loop-range.invariant,
  λ all. refl,
)

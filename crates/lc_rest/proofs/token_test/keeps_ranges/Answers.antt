use Rattle.std.proofs.Common.{◌≡◌, ◌∙◌, refl, sym, ap, subst, length, All, ◌<◌, ◌≤◌, List, true≢false}
use Rattle.std.specs.Prelude.{slice_index_or}
use Rattle.std.proofs.lemmas.List.{take_all}
use Rattle.std.proofs.lemmas.List.Elements.{All-more}
use Rattle.lc_record.specs.declared.record.RangeData.{RangeData}
use Rattle.lc_rest.specs.TokenTest.{IsKeptRange}
use Rattle.lc_rest.proofs.token_test.keeps_ranges.Goals as goal

pub returns-then-not-keeps_own_range : goal.returns-then-not-keeps_own_range
returns-then-not-keeps_own_range c =
    let i = c.loop-range.range-index in
    let item : c.range-item.result ≡ slice_index_or c.args.whole.now.ranges i c.range-item.result =
    c.range-item.is ∙ ap (λ (rs : List RangeData). slice_index_or rs i c.range-item.result) c.as_slice-range-items.ensures in
    let less : i < length c.args.whole.now.ranges = subst (λ (rs : List RangeData). i < length rs) c.as_slice-range-items.ensures c.loop-range-test.true in (
      λ e. absurd (true≢false (sym e)),
      λ all. absurd (true≢false (sym (c.keeps_own_range.ensures.1
          (subst (λ (range : RangeData). range.segment ≡ c.args.read.now.segment → IsKeptRange c.args.number c.args.read.now.token.now.clean c.args.read.now.pages c.args.read.now.area.now c.args.read.now.token.now.pages range) (sym item) (all i c.range-item.result less)))
          ∙ c.if-not-keeps_own_range.true)),
    )

pub loop-range-preserved : goal.loop-range-preserved
loop-range-preserved c =
    All-more (λ (range : RangeData). range.segment ≡ c.args.read.now.segment → IsKeptRange c.args.number c.args.read.now.token.now.clean c.args.read.now.pages c.args.read.now.area.now c.args.read.now.token.now.pages range)
    c.args.whole.now.ranges c.loop-range.range-index c.range-item.result
    (subst (λ (rs : List RangeData). c.loop-range.range-index < length rs) c.as_slice-range-items.ensures c.loop-range-test.true)
    c.loop-range.invariant
    (subst (λ (range : RangeData). range.segment ≡ c.args.read.now.segment → IsKeptRange c.args.number c.args.read.now.token.now.clean c.args.read.now.pages c.args.read.now.area.now c.args.read.now.token.now.pages range)
    (c.range-item.is ∙ ap (λ (rs : List RangeData). slice_index_or rs c.loop-range.range-index c.range-item.result) c.as_slice-range-items.ensures)
    (c.keeps_own_range.ensures.0 c.if-not-keeps_own_range.false))

pub returns : goal.returns
returns c = (
  λ e. subst (λ (rs : List RangeData). All (λ (range : RangeData). range.segment ≡ c.args.read.now.segment → IsKeptRange c.args.number c.args.read.now.token.now.clean c.args.read.now.pages c.args.read.now.area.now c.args.read.now.token.now.pages range) rs)
      (take_all c.loop-range.range-index c.args.whole.now.ranges (subst (λ (rs : List RangeData). length rs ≤ c.loop-range.range-index) c.as_slice-range-items.ensures c.loop-range-test.false))
      c.loop-range.invariant,
  λ all. refl,
)

use Rattle.std.proofs.Common.{◌∙◌, ap, subst, length, ◌<◌, List}
use Rattle.std.specs.Prelude.{slice_index_or}
use Rattle.lc_record.specs.declared.record.RangeData.{RangeData}
use Rattle.lc_rest.specs.Replay.{range_on}
use Rattle.lc_rest.proofs.Replays.{laid-more}
use Rattle.lc_rest.proofs.replay.lay_on.Goals as goal

pub loop-range-preserved : goal.loop-range-preserved
loop-range-preserved c =
    c.lay_range.ensures
    ∙ ap (λ (r : RangeData). range_on c.args.segment r c.loop-range.bytes)
    (c.range-item.is ∙ ap (λ (rs : List RangeData). slice_index_or rs c.loop-range.range-index c.range-item.result) c.as_slice-range-items.ensures)
    ∙ laid-more c.args.segment c.args.whole.now.ranges c.loop-range.bytes c.args.bytes.now c.loop-range.range-index c.range-item.result
    (subst (λ (rs : List RangeData). c.loop-range.range-index < length rs) c.as_slice-range-items.ensures c.loop-range-test.true) c.loop-range.invariant

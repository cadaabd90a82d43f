use Rattle.std.proofs.Common.{sym, ◌∙◌, le-ltb}
use Rattle.lc_range.proofs.PlaceLemmas.{held_at, held_past}
use Rattle.lc_range.proofs.runs.some_holds.Goals as goal

pub returns-then-place-runs : goal.returns-then-place-runs
returns-then-place-runs c =
    c.is_holding-then-place-runs.ensures ∙ held_at c.args.runs.now c.args.range.now c.count_before-place.result (record { segment = 0; offset = 0; len = 0 }) c.requires c.count_before-place.ensures.place c.if-place-runs.true

pub returns-else-place-runs : goal.returns-else-place-runs
returns-else-place-runs c =
    le-ltb _ _ c.if-place-runs.false
    ∙ sym (held_past c.args.runs.now c.args.range.now c.count_before-place.result c.count_before-place.ensures.place c.if-place-runs.false)

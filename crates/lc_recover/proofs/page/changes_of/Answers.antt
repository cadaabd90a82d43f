use Rattle.std.proofs.lemmas.Option.{slice_get-get_or}
use Rattle.lc_recover.specs.declared.redo_range.RedoRange.{RedoRange}
use Rattle.lc_recover.proofs.Picking.{picked}
use Rattle.lc_recover.proofs.page.changes_of.Goals as goal

no_change : RedoRange
no_change = record { segment = 0; page = 0; seq = 0; log = 0; place = 0; words = 0; offset = 0; len = 0 }

pub returns-then-change-page : goal.returns-then-change-page
unfolding no_change
returns-then-change-page c ascending =
    picked c.args.changes.now c.first_page.result.now c.loop-place.place c.args.segment c.args.page _
    (slice_get-get_or c.args.changes.now c.loop-place.place no_change c.loop-place-test.true) (c.if-change-segment.true, c.if-change-page.true)
    c.loop-place.invariant c.first_page.ensures ascending

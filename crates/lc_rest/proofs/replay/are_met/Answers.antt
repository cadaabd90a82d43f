use Rattle.lc_rest.proofs.Replays.{met-more}
use Rattle.lc_rest.proofs.replay.are_met.Goals as goal

pub loop-page-preserved : goal.loop-page-preserved
loop-page-preserved c = met-more c.args.area.now c.loop-page.page c.args.number c.args.bytes.now c.loop-page.invariant (c.is_met.ensures.0 c.if-not-is_met.false)

use Rattle.std.proofs.Common.{◌+◌}
use Rattle.lc_recover.proofs.StoppedFits.{synced-fits}
use Rattle.lc_recover.proofs.advance.sync_step.Goals as goal

pub returns-clause-fits : goal.returns-clause-fits
returns-clause-fits g c =
    synced-fits g.D.Area c.args.geometry.now c.sync_area.new.areas (c.args.synced + 1) c.new.result c.new.ensures.logs c.new.ensures.segments c.new.ensures.locks c.new.ensures.numbers c.if-synced-areas.false c.in_ok-sync_area.ensures.fits

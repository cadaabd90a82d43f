use Rattle.std.proofs.Common.{subst}
use Rattle.lc_recover.specs.Reads.{HaveLengths}
use Rattle.lc_recover.specs.Recovery.{Recovering}
use Rattle.lc_recover.proofs.Showing.{have-lengths}
use Rattle.lc_recover.proofs.recovery.Recovery.geometry.Goals as goal

pub returns-clause-lengths : goal.returns-clause-lengths
returns-clause-lengths g c =
    subst (λ (r : Recovering g.row.D.Denot). HaveLengths g.D.Area r.geometry r.areas) c.self.view_is
    (have-lengths g.D.Area c.self.inside.geometry c.self.inside.stage c.self.inside.areas.items c.self.invariant.fits.0)

use Rattle.std.proofs.Common.{sym, subst}
use Rattle.lc_record.specs.declared.geometry.Geometry.{Geometry}
use Rattle.lc_recover.specs.Reads.{HaveLengths}
use Rattle.lc_core.proofs.world_phase.WorldPhase.into_areas.Goals as goal

pub returns-in-Up-clause-lengths : goal.returns-in-Up-clause-lengths
returns-in-Up-clause-lengths g c =
    subst (λ (v : Geometry). HaveLengths g.D.Area v c.into_areas.result.1.items) (sym c.into_areas.ensures.geometry) c.into_areas.ensures.lengths

use Rattle.lc_core.proofs.Stopped.{are_of, their_lengths}
use Rattle.lc_core.specs.Areas.{AreOf}
use Rattle.lc_core.proofs.up.Up.into_areas.Given.{Over}
use Rattle.lc_core.proofs.up.Up.into_areas.Goals as goal

module _ (g : Over) (c : goal.After-drop-running g) where
  are : AreOf g.D.Area c.args.self c.with_segments.result.items
  are = are_of g.D.Area c.args.self c.log_areas-logs.result.items c.with_segments.result.items c.log_areas-logs.ensures.logs c.log_areas-logs.ensures.count c.with_segments.ensures

pub returns-clause-areas : goal.returns-clause-areas
returns-clause-areas g c = are g c

pub returns-clause-lengths : goal.returns-clause-lengths
returns-clause-lengths g c = their_lengths g.D.Area c.args.self c.with_segments.result.items (are g c)

use Rattle.std.proofs.Common.{subst}
use Rattle.lc_recover.specs.Forecast.{IsForecast}
use Rattle.lc_recover.proofs.Foretelling.{its-forecast}
use Rattle.lc_recover.proofs.forecast.Forecast.geometry.Goals as goal

pub returns-clause-merged : goal.returns-clause-merged
returns-clause-merged c = subst IsForecast c.self.view_is (its-forecast c.self.inside.geometry c.self.inside.writes c.self.invariant)

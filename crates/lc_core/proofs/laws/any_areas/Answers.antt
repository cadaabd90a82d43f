use Rattle.lc_core.proofs.Anew.{starts_anew}
use Rattle.lc_core.proofs.Layering.{steps_up}
use Rattle.lc_core.proofs.Living.{one_lives}
use Rattle.lc_core.proofs.Recoveries.{begins_anew, runs_up}
use Rattle.lc_core.proofs.StaysHonest.{stays_honest}
use Rattle.lc_core.proofs.Stopped.{stop_leads}
use Rattle.lc_core.proofs.laws.any_areas.Goals as goal

pub returns-clause-begins : goal.returns-clause-begins
returns-clause-begins g c = begins_anew g.D.Area

pub returns-clause-runs : goal.returns-clause-runs
returns-clause-runs g c = runs_up g.D.Area

pub returns-clause-honest : goal.returns-clause-honest
returns-clause-honest g c = stays_honest g.D.Area

pub returns-clause-lives : goal.returns-clause-lives
returns-clause-lives g c = λ shape at old new event reply. one_lives g.D.Area shape at old event reply new

pub returns-clause-anew : goal.returns-clause-anew
returns-clause-anew g c = starts_anew g.D.Area

pub returns-clause-stops : goal.returns-clause-stops
returns-clause-stops g c = λ m s x choices. stop_leads g.D.Area m s x choices

pub returns-clause-steps : goal.returns-clause-steps
returns-clause-steps g c = steps_up g.D.Area

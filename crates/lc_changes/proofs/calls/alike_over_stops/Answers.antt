use Rattle.lc_changes.proofs.Stopping.{recovered-like, run-near}
use Rattle.lc_changes.proofs.calls.alike_over_stops.Goals as goal

pub returns-clause-run : goal.returns-clause-run
returns-clause-run c = run-near

pub returns-clause-recovered : goal.returns-clause-recovered
returns-clause-recovered c = recovered-like

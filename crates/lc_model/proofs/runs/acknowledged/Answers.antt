use Rattle.lc_model.proofs.Told.{acked-step, acked-run, acked-recovered, acked-kept_run, acked_of-run, acked_of-kept}
use Rattle.lc_model.proofs.runs.acknowledged.Goals as goal

pub returns-clause-step : goal.returns-clause-step
returns-clause-step c = acked-step

pub returns-clause-run : goal.returns-clause-run
returns-clause-run c = acked-run

pub returns-clause-recovered : goal.returns-clause-recovered
returns-clause-recovered c = acked-recovered

pub returns-clause-kept : goal.returns-clause-kept
returns-clause-kept c = acked-kept_run

pub returns-clause-in_order : goal.returns-clause-in_order
returns-clause-in_order c = acked_of-run

pub returns-clause-kept_in_order : goal.returns-clause-kept_in_order
returns-clause-kept_in_order c = acked_of-kept

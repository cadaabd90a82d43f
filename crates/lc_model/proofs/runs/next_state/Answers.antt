use Rattle.lc_model.proofs.Tells.{step-tells, run-tells, stop-tells}
use Rattle.lc_model.proofs.runs.next_state.Goals as goal

pub returns-clause-step : goal.returns-clause-step
returns-clause-step c = step-tells

pub returns-clause-run : goal.returns-clause-run
returns-clause-run c = run-tells

pub returns-clause-stop : goal.returns-clause-stop
returns-clause-stop c = stop-tells

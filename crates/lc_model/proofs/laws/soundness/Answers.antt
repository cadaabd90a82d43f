use Rattle.lc_model.proofs.Keeps.{sound-first, sound-step, sound-run, acked-reserved}
use Rattle.lc_model.proofs.laws.soundness.Goals as goal

pub returns-clause-first : goal.returns-clause-first
returns-clause-first c = sound-first

pub returns-clause-step : goal.returns-clause-step
returns-clause-step c = λ m s new event reply. sound-step m s event reply new

pub returns-clause-run : goal.returns-clause-run
returns-clause-run c = λ m s new events replies. sound-run m s events replies new

pub returns-clause-acked_reserved : goal.returns-clause-acked_reserved
returns-clause-acked_reserved c = acked-reserved

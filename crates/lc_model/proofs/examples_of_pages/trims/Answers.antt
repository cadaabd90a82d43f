use Rattle.std.proofs.Common.{refl, sym, true≢false}
use Rattle.lc_model.proofs.examples_of_pages.trims.Goals as goal

pub returns-clause-none : goal.returns-clause-none
returns-clause-none c = (refl, refl)

pub returns-clause-some : goal.returns-clause-some
returns-clause-some c = (refl, refl)

pub returns-clause-no_refusal : goal.returns-clause-no_refusal
returns-clause-no_refusal c = λ refusal new step. true≢false (sym step.0)

pub returns-clause-no_step : goal.returns-clause-no_step
returns-clause-no_step c = λ new step. true≢false (sym step.0)

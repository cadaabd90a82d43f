use Rattle.std.proofs.Common.{refl, sym, true≢false}
use Rattle.lc_model.proofs.examples_of_refusals.halted_deliveries.Goals as goal

pub returns-clause-from_halted : goal.returns-clause-from_halted
returns-clause-from_halted c = (refl, refl)

pub returns-clause-not_halted : goal.returns-clause-not_halted
returns-clause-not_halted c = λ new step. true≢false (sym step.0)

pub returns-clause-to_halted : goal.returns-clause-to_halted
returns-clause-to_halted c = ((refl, refl), λ reply new step. step)

pub returns-clause-both_halted : goal.returns-clause-both_halted
returns-clause-both_halted c = ((refl, refl), λ reply new step. step)

pub returns-clause-unknown_first : goal.returns-clause-unknown_first
returns-clause-unknown_first c = ((refl, refl), λ reply new step. step)

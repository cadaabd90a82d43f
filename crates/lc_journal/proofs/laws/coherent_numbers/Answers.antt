use Rattle.lc_journal.proofs.laws.coherent_numbers.Goals as goal
use Rattle.lc_journal.proofs.Cohering.{coherent_fresh}
use Rattle.lc_journal.proofs.CoherentSteps.{coherent_keeps, disks_keep}
use Rattle.lc_journal.proofs.Halting.{halted_stays, place_stays}

pub returns-clause-fresh : goal.returns-clause-fresh
returns-clause-fresh c = coherent_fresh

pub returns-clause-keeps : goal.returns-clause-keeps
returns-clause-keeps c = λ m s x event reply after next up still fits h step settled turns. (
  coherent_keeps m s x event reply after next up still fits h step settled turns,
  disks_keep m s x event reply after next up still fits h step settled turns,
)

pub returns-clause-halted : goal.returns-clause-halted
returns-clause-halted c = λ m s event reply after up still step. (
  halted_stays m s event reply after up still step,
  place_stays m s event reply after up still step,
)

use Rattle.std.proofs.Common.{◌∷◌, [], refl}
use Rattle.lc_record.specs.Transaction.{Transaction}
use Rattle.lc_model.specs.History.{Numbered}
use Rattle.lc_model.specs.ExamplesOfLocks.{read_one, read_beside}
use Rattle.lc_model.proofs.SmallCuts.{closed_two, readers_apart}
use Rattle.lc_model.proofs.examples_of_locks.read_behind_read.Goals as goal

abbrev at_first : Transaction → Numbered
at_first t = record { transaction = t; number = 0 }

pub returns-clause-not_meet : goal.returns-clause-not_meet
returns-clause-not_meet c = readers_apart

pub returns-clause-first_alone : goal.returns-clause-first_alone
returns-clause-first_alone c = closed_two (1 ∷ 0 ∷ []) (at_first read_one) (at_first read_beside) (λ meet kept. refl)

pub returns-clause-second_alone : goal.returns-clause-second_alone
returns-clause-second_alone c = closed_two (0 ∷ 1 ∷ []) (at_first read_one) (at_first read_beside) (λ meet kept. absurd (readers_apart meet))

pub returns-clause-keeps_second : goal.returns-clause-keeps_second
returns-clause-keeps_second c = refl

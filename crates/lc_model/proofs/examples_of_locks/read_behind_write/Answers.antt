use Rattle.std.proofs.Common.{◌∷◌, [], refl, sym, true≢false, lit<}
use Rattle.lc_record.specs.Transaction.{Transaction}
use Rattle.lc_model.specs.History.{Numbered}
use Rattle.lc_model.specs.ExamplesOfLocks.{read_one, write_one}
use Rattle.lc_model.proofs.SmallCuts.{closed_two}
use Rattle.lc_model.proofs.examples_of_locks.read_behind_write.Goals as goal

abbrev at_first : Transaction → Numbered
at_first t = record { transaction = t; number = 0 }

pub returns-clause-meet : goal.returns-clause-meet
returns-clause-meet c = (1, refl)

pub returns-clause-both_kept : goal.returns-clause-both_kept
returns-clause-both_kept c = closed_two (1 ∷ 1 ∷ []) (at_first write_one) (at_first read_one) (λ meet kept. refl)

pub returns-clause-writer_alone : goal.returns-clause-writer_alone
returns-clause-writer_alone c = closed_two (0 ∷ 1 ∷ []) (at_first write_one) (at_first read_one) (λ meet kept. refl)

pub returns-clause-not_reader_alone : goal.returns-clause-not_reader_alone
returns-clause-not_reader_alone c = λ closed. true≢false (sym (closed 0 1 (at_first write_one) (lit< tt) (lit< tt) (1, refl) refl))

use Rattle.std.proofs.Common.{◌∷◌, [], refl, sym, true≢false, lit<}
use Rattle.lc_record.specs.Transaction.{Transaction}
use Rattle.lc_model.specs.History.{Numbered}
use Rattle.lc_model.specs.ExamplesOfLocks.{read_one, write_one}
use Rattle.lc_model.proofs.SmallCuts.{lost, closed_two}
use Rattle.lc_model.proofs.examples_of_locks.write_behind_read.Goals as goal

abbrev at_first : Transaction → Numbered
at_first t = record { transaction = t; number = 0 }

pub returns-clause-meet : goal.returns-clause-meet
returns-clause-meet c = (1, refl)

pub returns-clause-both_kept : goal.returns-clause-both_kept
returns-clause-both_kept c = closed_two (1 ∷ 1 ∷ []) (at_first read_one) (at_first write_one) (λ meet kept. refl)

pub returns-clause-reader_alone : goal.returns-clause-reader_alone
returns-clause-reader_alone c = closed_two (1 ∷ 0 ∷ []) (at_first read_one) (at_first write_one) (λ meet kept. refl)

pub returns-clause-keeps_reader : goal.returns-clause-keeps_reader
returns-clause-keeps_reader c = refl

pub returns-clause-not_writer_alone : goal.returns-clause-not_writer_alone
returns-clause-not_writer_alone c = λ closed. true≢false (sym (closed 0 1 (at_first read_one) (lit< tt) (lit< tt) (1, refl) refl))

pub returns-clause-none : goal.returns-clause-none
returns-clause-none c = closed_two (0 ∷ 0 ∷ []) (at_first read_one) (at_first write_one) (lost (0 ∷ 0 ∷ []) (at_first read_one) (at_first write_one) refl)

use Rattle.std.proofs.Common.{◌≡◌, ◌∷◌, [], ap, arith, lit<, refl}
use Rattle.lc_record.specs.Transaction.{Transaction, Meet}
use Rattle.lc_model.specs.History.{Numbered, StandsBefore, numbered_after}
use Rattle.lc_model.specs.ExamplesOfLocks.{read_one, read_beside, write_one}
use Rattle.lc_model.proofs.Order.{stands_before}
use Rattle.lc_model.proofs.SmallCuts.{alone, pairs_two, readers_apart, turned_round}
use Rattle.lc_model.proofs.examples_of_locks.order_of_two.Goals as goal

abbrev at_first : Transaction → Numbered
at_first t = record { transaction = t; number = 0 }

pub returns-clause-as_they_stood : goal.returns-clause-as_they_stood
returns-clause-as_they_stood c = λ i j d i_lt j_in meet. stands_before (numbered_after [] (read_one ∷ write_one ∷ [])) i j d i_lt j_in

pub returns-clause-not_turned_round : goal.returns-clause-not_turned_round
returns-clause-not_turned_round c = λ keeps.
    let same : at_first read_one ≡ at_first write_one = turned_round (at_first read_one) (at_first write_one) (keeps 0 1 (at_first read_one) (lit< tt) (lit< tt) (1, refl)) in
    let nodes : 0 ≡ 1 = ap (λ (x : Numbered). x.transaction.node) same in
    omega (arith, nodes)

pub returns-clause-writer_alone : goal.returns-clause-writer_alone
returns-clause-writer_alone c = refl

pub returns-clause-not_round_again : goal.returns-clause-not_round_again
returns-clause-not_round_again c = λ keeps.
    let same : at_first write_one ≡ at_first read_one = turned_round (at_first write_one) (at_first read_one) (keeps 0 1 (at_first read_one) (lit< tt) (lit< tt) (1, refl)) in
    let nodes : 1 ≡ 0 = ap (λ (x : Numbered). x.transaction.node) same in
    omega (arith, nodes)

pub returns-clause-none_is_lost : goal.returns-clause-none_is_lost
returns-clause-none_is_lost c = λ keeps. alone (at_first read_one) (at_first write_one) (at_first write_one) (keeps 0 1 (at_first read_one) (lit< tt) (lit< tt) (1, refl))

pub returns-clause-readers_turn_round : goal.returns-clause-readers_turn_round
returns-clause-readers_turn_round c =
    pairs_two (λ x y. Meet x.transaction y.transaction → StandsBefore (numbered_after [] (read_beside ∷ read_one ∷ [])) x y) (at_first read_one) (at_first read_beside)
    (λ meet. absurd (readers_apart meet))

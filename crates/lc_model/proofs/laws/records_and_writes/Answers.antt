use Rattle.lc_model.proofs.Merging.{kept_records-of_node, by_number-any_order, records-put_on, kept_records-same, kept_records-put_on, numbers-counting, by_number-all, record-final, numbers-rise, newest-one, of_a_segment, counted-length}
use Rattle.lc_model.proofs.laws.records_and_writes.Goals as goal

pub returns-clause-in_order : goal.returns-clause-in_order
returns-clause-in_order c = records-put_on

pub returns-clause-of_a_cut : goal.returns-clause-of_a_cut
returns-clause-of_a_cut c = kept_records-same

pub returns-clause-cut_in_order : goal.returns-clause-cut_in_order
returns-clause-cut_in_order c = kept_records-put_on

pub returns-clause-no_gap : goal.returns-clause-no_gap
returns-clause-no_gap c = λ numbers content ts segment. numbers-counting numbers content segment ts

pub returns-clause-by_number : goal.returns-clause-by_number
returns-clause-by_number c = by_number-all

pub returns-clause-final_bytes : goal.returns-clause-final_bytes
returns-clause-final_bytes c = record-final

pub returns-clause-numbers_rise : goal.returns-clause-numbers_rise
returns-clause-numbers_rise c = numbers-rise

pub returns-clause-one_newest : goal.returns-clause-one_newest
returns-clause-one_newest c = newest-one

pub returns-clause-counted : goal.returns-clause-counted
returns-clause-counted c = counted-length

pub returns-clause-of_a_segment : goal.returns-clause-of_a_segment
returns-clause-of_a_segment c = of_a_segment

pub returns-clause-cut_of_a_node : goal.returns-clause-cut_of_a_node
returns-clause-cut_of_a_node c = kept_records-of_node

pub returns-clause-any_order : goal.returns-clause-any_order
returns-clause-any_order c = by_number-any_order

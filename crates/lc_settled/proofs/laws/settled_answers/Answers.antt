use Rattle.lc_settled.proofs.laws.settled_answers.Goals as goal
use Rattle.lc_settled.proofs.Settling.{some-settled, one-settled}
use Rattle.lc_settled.proofs.Turning.{some-numbers, one-numbers}

pub returns-clause-some : goal.returns-clause-some
returns-clause-some c = some-settled

pub returns-clause-one : goal.returns-clause-one
returns-clause-one c = λ m s new next x event reply other. one-settled m s x event reply other new next

pub returns-clause-some_numbers : goal.returns-clause-some_numbers
returns-clause-some_numbers c = some-numbers

pub returns-clause-one_numbers : goal.returns-clause-one_numbers
returns-clause-one_numbers c = one-numbers

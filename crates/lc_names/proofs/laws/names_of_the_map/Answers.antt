use Rattle.lc_names.proofs.Listed.{distinct_in, listed_some, some_listed}
use Rattle.lc_names.proofs.laws.names_of_the_map.Goals as goal

pub returns-clause-same : goal.returns-clause-same
returns-clause-same c = λ entries name. (listed_some name entries, some_listed name entries)

pub returns-clause-once : goal.returns-clause-once
returns-clause-once c = distinct_in

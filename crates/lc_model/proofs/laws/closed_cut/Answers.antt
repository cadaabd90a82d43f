use Rattle.lc_model.proofs.Law.{law_value, law_each}
use Rattle.lc_model.proofs.Order.{law_meet}
use Rattle.lc_model.proofs.Prefix.{kept_prefix}
use Rattle.lc_model.proofs.laws.closed_cut.Goals as goal

pub returns-clause-same_value : goal.returns-clause-same_value
returns-clause-same_value c = law_value

pub returns-clause-same_order : goal.returns-clause-same_order
returns-clause-same_order c = law_meet

pub returns-clause-each_once : goal.returns-clause-each_once
returns-clause-each_once c = law_each

pub returns-clause-first_of_each_node : goal.returns-clause-first_of_each_node
returns-clause-first_of_each_node c = kept_prefix

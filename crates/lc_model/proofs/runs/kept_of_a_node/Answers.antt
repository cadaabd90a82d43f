use Rattle.lc_model.proofs.Downs.{acked-kept, kept-front}
use Rattle.lc_model.proofs.Prefix.{kept_prefix}
use Rattle.lc_model.proofs.runs.kept_of_a_node.Goals as goal

pub returns-clause-first_part : goal.returns-clause-first_part
returns-clause-first_part c = λ g s cut node sound may. kept_prefix s.history cut node

pub returns-clause-closed : goal.returns-clause-closed
returns-clause-closed c = kept-front

pub returns-clause-with_acknowledged : goal.returns-clause-with_acknowledged
returns-clause-with_acknowledged c = λ g s cut node sound may below. acked-kept g s node _ sound (may.2 node below)

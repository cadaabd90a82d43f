use Rattle.lc_log_side.proofs.Leaving.{left-none, left-more, left-sees, left-trims, left-all}
use Rattle.lc_log_side.proofs.laws.left.Goals as goal

pub returns-clause-none : goal.returns-clause-none
returns-clause-none c = left-none

pub returns-clause-more : goal.returns-clause-more
returns-clause-more c = left-more

pub returns-clause-sees : goal.returns-clause-sees
returns-clause-sees c = left-sees

pub returns-clause-trims : goal.returns-clause-trims
returns-clause-trims c = left-trims

pub returns-clause-all : goal.returns-clause-all
returns-clause-all c = left-all

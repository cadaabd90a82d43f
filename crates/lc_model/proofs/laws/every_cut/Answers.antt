use Rattle.lc_model.proofs.EveryCut.{every_cut_closed, may_cut}
use Rattle.lc_model.proofs.laws.every_cut.Goals as goal

pub returns-clause-closed : goal.returns-clause-closed
returns-clause-closed c = every_cut_closed

pub returns-clause-allowed : goal.returns-clause-allowed
returns-clause-allowed c = may_cut

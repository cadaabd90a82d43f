use Rattle.lc_model.proofs.Unrefused.{renewed-merges, reset-merges, zeros-merge}
use Rattle.lc_model.proofs.merge.no_later_refusal.Goals as goal

pub returns-clause-pages : goal.returns-clause-pages
returns-clause-pages c = renewed-merges

pub returns-clause-logs : goal.returns-clause-logs
returns-clause-logs c = reset-merges

pub returns-clause-zeros : goal.returns-clause-zeros
returns-clause-zeros c = zeros-merge

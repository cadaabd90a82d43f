use Rattle.lc_journal.proofs.laws.other_journals.Goals as goal
use Rattle.lc_journal.proofs.OtherLogs.{log_beside, logs_open, logs_logged, logs_appended, logs_closed}

pub returns-clause-stays : goal.returns-clause-stays
returns-clause-stays g c = λ m node other s x after y log kept dropped trimmed taken acked differ beside h. log_beside _ m node other s x after y differ beside log kept dropped trimmed taken acked h

pub returns-clause-open : goal.returns-clause-open
returns-clause-open g c = logs_open

pub returns-clause-logged : goal.returns-clause-logged
returns-clause-logged g c = logs_logged

pub returns-clause-reserved : goal.returns-clause-reserved
returns-clause-reserved g c = logs_appended

pub returns-clause-closed : goal.returns-clause-closed
returns-clause-closed g c = logs_closed

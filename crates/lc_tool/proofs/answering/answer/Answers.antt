use Rattle.lc_tool.proofs.answering.answer.Goals as goal

pub returns-in-New : goal.returns-in-New
returns-in-New g c = record {
  answers = rw (c.in-Run.is, c.in-New.is) c.run_new.ensures.runs;
}

pub returns-in-InFolder : goal.returns-in-InFolder
returns-in-InFolder g c = record {
  answers = rw (c.in-Run.is, c.in-InFolder.is) c.run_sized.ensures.tells;
}

pub returns-in_ok-recover_sized-in-Recover : goal.returns-in_ok-recover_sized-in-Recover
returns-in_ok-recover_sized-in-Recover g c = record {
  answers = rw c.in-Recover.is c.in_ok-recover_sized-in-Recover.ensures.tells;
}

pub returns-in_ok-check_asked-in-Check : goal.returns-in_ok-check_asked-in-Check
returns-in_ok-check_asked-in-Check g c = record {
  answers = rw c.in-Check.is c.in_ok-check_asked-in-Check.ensures.tells;
}

pub returns-in_ok-dump_page-in-Dump : goal.returns-in_ok-dump_page-in-Dump
returns-in_ok-dump_page-in-Dump g c = record {
  answers = rw c.in-Dump.is c.in_ok-dump_page-in-Dump.ensures.tells;
}

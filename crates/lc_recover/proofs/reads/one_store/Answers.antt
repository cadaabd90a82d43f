use Rattle.lc_recover.proofs.OneStore.{reads_one, reads_so}
use Rattle.lc_recover.proofs.reads.one_store.Goals as goal

pub returns-clause-reads : goal.returns-clause-reads
returns-clause-reads c = reads_so

pub returns-clause-one : goal.returns-clause-one
returns-clause-one c = reads_one

use Rattle.lc_page.proofs.StateLemmas.{settled_reads}
use Rattle.lc_page.proofs.laws.settled_reads.Goals as goal

pub returns : goal.returns
returns c = settled_reads

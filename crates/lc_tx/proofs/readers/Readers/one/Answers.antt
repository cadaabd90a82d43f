use Rattle.std.proofs.Common.{false, replicate}
use Rattle.lc_tx.proofs.ReaderLemmas.{of_nobody, set_some}
use Rattle.lc_tx.proofs.readers.Readers.one.Goals as goal

pub invariant_of-result-clause-some : goal.invariant_of-result-clause-some
invariant_of-result-clause-some c = set_some (replicate 16 false) c.args.thread c.requires

pub returns : goal.returns
returns c = λ other. of_nobody c.args.thread other c.requires

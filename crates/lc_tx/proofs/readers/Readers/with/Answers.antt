use Rattle.std.proofs.Common.{arith}
use Rattle.lc_tx.proofs.ReaderLemmas.{set_some, set_true}
use Rattle.lc_tx.proofs.readers.Readers.with.Goals as goal

pub invariant_of-result-clause-some : goal.invariant_of-result-clause-some
invariant_of-result-clause-some c = set_some c.args.self.reads c.args.thread (omega (arith, c.args.self.all_threads, c.requires))

pub returns : goal.returns
returns c = λ other. set_true c.args.self.reads c.args.thread other (omega (arith, c.args.self.all_threads, c.requires))

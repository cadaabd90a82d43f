use Rattle.std.proofs.Common.{arith}
use Rattle.lc_record.proofs.WordLemmas.{AreWords-from}
use Rattle.lc_record.proofs.RecordLemmas.{len_found, len_none}
use Rattle.lc_record.proofs.decoding.check.Goals as goal

pub returns-clause-found : goal.returns-clause-found
returns-clause-found c = len_found c.args.words.now c.len_of.result (AreWords-from c.args.words.now (λ i. omega (arith, c.type_inv.words i))) c.len_of.ensures

pub returns-clause-none : goal.returns-clause-none
returns-clause-none c = len_none c.args.words.now c.len_of.result c.len_of.ensures

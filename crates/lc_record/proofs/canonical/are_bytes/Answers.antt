use Rattle.std.proofs.Common.{arith}
use Rattle.lc_record.proofs.WordLemmas.{AreBytes-from}
use Rattle.lc_record.proofs.canonical.are_bytes.Goals as goal

pub returns : goal.returns
returns c = AreBytes-from c.args.bytes.now (λ i. omega (arith, c.type_inv.bytes i))

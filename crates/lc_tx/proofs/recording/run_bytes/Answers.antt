use Rattle.std.proofs.Common.{arith}
use Rattle.lc_record.proofs.WordLemmas.{AreBytes-from, AreBytes-take, AreBytes-drop}
use Rattle.lc_tx.proofs.recording.run_bytes.Goals as goal

pub returns-clause-fit : goal.returns-clause-fit
returns-clause-fit c = AreBytes-take _ _ (AreBytes-drop _ _ (AreBytes-from c.args.image.now (λ i. omega (arith, c.type_inv.image i))))

use Rattle.std.specs.Prelude.{slice_index}
use Rattle.lc_tx.proofs.KeptLemmas.{kept_alone}
use Rattle.lc_tx.proofs.tx.Tx.set_bytes.Goals as goal

pub returns-in-Ok-clause-alone : goal.returns-in-Ok-clause-alone
returns-in-Ok-clause-alone c =
    kept_alone c.args.self.now.undo c.add_kept.new.undo c.args.self.now.set c.add_kept.new.self c.args.segment c.args.offset c.args.len (slice_index c.args.bytes.now) c.in-Ok.ensures.kept c.in-Ok.ensures.adds

use Rattle.lc_tx.proofs.LockedLemmas.{restored_from, restored_runs}
use Rattle.lc_tx.proofs.tx.Tx.abort.Goals as goal

pub release-requires : goal.release-requires
release-requires g c = record { runs = restored_runs g.I.Images g.met.I.Images.beside_chained c.args.images.now c.restore.new.images c.args.self c.requires.runs c.restore.ensures }

pub returns : goal.returns
returns g c = restored_from g.I.Images g.met.I.Images.beside_chained c.args.images.now c.restore.new.images c.args.self c.requires.runs c.restore.ensures c.release.new.images c.release.ensures

use Rattle.std.proofs.Common.{arith}
use Rattle.lc_journal.proofs.journal.Journal.unacknowledged.Goals as goal

pub closed_from-requires : goal.closed_from-requires
closed_from-requires g c = omega (arith, c.args.self.now.kept, c.args.self.now.dropped_acked)

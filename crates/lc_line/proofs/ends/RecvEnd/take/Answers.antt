use Rattle.lc_line.proofs.Keeps.{takes}
use Rattle.lc_line.proofs.ends.RecvEnd.take.Goals as goal

pub try_recv_as-requires-clause-rule : goal.try_recv_as-requires-clause-rule
try_recv_as-requires-clause-rule g c = (takes _ _ c.args.self.now.takes, λ items views h at. tt)

use Rattle.lc_c.proofs.Stages.{reads_open, refuses_open}
use Rattle.lc_c.proofs.session.Session.read.Goals as goal

pub returns-in-Open-clause-bytes : goal.returns-in-Open-clause-bytes
returns-in-Open-clause-bytes c = reads_open c.args.self.now.stage c.in-Open.world _ _ c.read.result c.in-Open.is c.read.ensures.bytes

pub returns-in-Open-clause-refused : goal.returns-in-Open-clause-refused
returns-in-Open-clause-refused c = refuses_open c.args.self.now.stage c.in-Open.world _ c.read.result c.in-Open.is c.read.ensures.refused

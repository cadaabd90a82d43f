use Rattle.lc_log.proofs.LogLemmas.{at_rest_none}
use Rattle.lc_log.proofs.idle.Idle.new.Goals as goal

pub returns-clause-idle : goal.returns-clause-idle
returns-clause-idle g c = λ honest. at_rest_none (g.D.Area.now c.args.area) (g.D.Area.dirty c.args.area) c.requires.room (c.requires.closed honest) (c.requires.clean honest)

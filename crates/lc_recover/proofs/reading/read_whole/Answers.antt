use Rattle.std.specs.Prelude.{is_ok}
use Rattle.lc_log.proofs.OneCalls.{read_call}
use Rattle.lc_recover.proofs.reading.read_whole.Goals as goal

pub returns-clause-call : goal.returns-clause-call
returns-clause-call g c = read_call g.D.Area c.args.area.now c.read.new.self (is_ok c.read.result) c.read.ensures.honest c.read.ensures.len c.read.ensures.called c.read.ensures.counted c.read.ensures.same c.read.ensures.same_dirty

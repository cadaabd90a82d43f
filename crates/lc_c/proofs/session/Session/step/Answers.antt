use Rattle.lc_c.proofs.Stages.{comes, steps_open}
use Rattle.lc_c.proofs.session.Session.step.Goals as goal

pub returns-in-Open-clause-steps : goal.returns-in-Open-clause-steps
returns-in-Open-clause-steps c =
    let event = c.args.event.now in let store = c.in-Open.world in let after = c.step.new.self in let e = c.step.ensures in
    steps_open c.args.self.now.stage store after event c.step.result c.in-Open.is
    (comes store event after c.step.result c.requires.step e.follows e.asks e.err e.still e.memory e.at_once e.faults e.no_fault e.geometry e.unknown e.calls e.kept e.anyhow e.names)

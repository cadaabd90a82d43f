use Rattle.std.proofs.Common.{sym, subst}
use Rattle.lc_core.specs.Truncation.{Leads, RemainsIn, ThenResets, WritesAt, WritesIf, calls_left}
use Rattle.lc_core.proofs.Truncations.{if_next, leads_more}
use Rattle.lc_core.proofs.world.World.truncate_step.Goals as goal

pub returns-in-Writes-clause-remains : goal.returns-in-Writes-clause-remains
returns-in-Writes-clause-remains g c =
    let a = g.D.Area in
    let w = c.args.self.now in
    let node = c.args.truncation.node in
    let at = c.in-Writes.cursor in
    let next = c.next_due-next.result in
    subst (λ stage. Leads a (RemainsIn a node stage) w c.write_on.result c.write_on.new.self) (sym c.in-Writes.is)
    (leads_more a (ThenResets a node (WritesIf a node next)) (ThenResets a node (WritesAt a node at)) w c.write_on.new.self c.write_on.result
    (λ reply new rest. (rest.0, rest.1, if_next a node (WritesAt a node at) (calls_left at) w next c.next_due-next.ensures rest.0 rest.1 rest.2, rest.3)) c.write_on.ensures.remains)

pub returns-in-Asks-clause-remains : goal.returns-in-Asks-clause-remains
returns-in-Asks-clause-remains g c =
    let a = g.D.Area in
    subst (λ stage. Leads a (RemainsIn a c.args.truncation.node stage) c.args.self.now c.write_unblocked.result c.write_unblocked.new.self) (sym c.in-Asks.is) c.write_unblocked.ensures.remains
